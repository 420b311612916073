-- Why the results of `clamp` and of saturating arithmetic are in range, and the nearest to the exact result.
use Rattle.std.specs.Prelude.{◌≡◌, ◌↔◌, ℕ, ℤ, Bool, true, false, not, pos, neg_ℤ, ◌+ℤ◌, ◌-ℤ◌, ◌*ℤ◌, ◌≤ℤ◌, ◌<ℤ◌, ◌+◌, ◌-◌, ◌%◌, ◌^◌, ◌≤◌, int_lt, int_div, IsTrue, Option, Some, None, SomeIff, option_map}
use Rattle.std.specs.Option.{is_some}
use mathlib.Core.Bool.{beq}
use Rattle.std.proofs.Common.{arith, refl, ap, sym, subst, ◌∙◌, ⊎_elim}
use Rattle.std.proofs.lemmas.Int.{ints, by_lt_z}
use Rattle.std.proofs.lemmas.Nat.{pow_pos}
use Rattle.arbitrary_base.specs.Range.{lo, hi, InRange, range_end}
use Rattle.arbitrary_base.specs.Residue.{Congruent, wrap}
use Rattle.arbitrary_base.specs.Saturating.{clamp}
use Rattle.arbitrary_base.proofs.modular.Residue.{wrap-of_in_range}
use Rattle.arbitrary_base.proofs.storages.Primitive.{mod-congruent}
use Rattle.arbitrary_base.proofs.integers.Ring.{mul-from_zero, mul-both_below, mul-first_below, mul-second_below}
use Rattle.arbitrary_base.proofs.modular.Congruence.{Congruent-trans, Congruent-sym, pow_half, span, Congruent-from_apart, Congruent-narrower}
use Rattle.arbitrary_base.proofs.modular.Residue.{wrap-unique}
use Rattle.arbitrary_base.proofs.storages.CheckedSum.{three_ways, zero-in_range}
use Rattle.arbitrary_base.proofs.integers.Quotient.{low_enough}

pub clamp-in_range : (s : Bool) (B : ℕ) (x y : ℤ) → InRange s B x → y ≡ x → y ≡ clamp s B x
unfolding clamp
clamp-in_range s B x y f e =
    let a : int_lt x (lo s B) ≡ false = let l = f.low in grind (arith, ints) in
    let b : int_lt (hi s B) x ≡ false = let h = f.high in grind (arith, ints) in
    rw (a, b) e

pub clamp-fits : (s : Bool) (B : ℕ) (x : ℤ) → InRange s B x → clamp s B x ≡ x
clamp-fits s B x h = sym (clamp-in_range s B x x h refl)

pub clamp-below : (s : Bool) (B : ℕ) (x : ℤ) → x <ℤ lo s B → clamp s B x ≡ lo s B
unfolding clamp
clamp-below s B x f =
    let a : int_lt x (lo s B) ≡ true = grind (arith, ints) in
    rw a refl

pub clamp-above : (s : Bool) (B : ℕ) (x : ℤ) → 1 ≤ B → hi s B <ℤ x → clamp s B x ≡ hi s B
unfolding clamp
clamp-above s B x h f =
    let e = span s B h in
    let p = pow_pos B in
    let l : lo s B ≤ℤ x = omega (arith, ints) in
    let a : int_lt x (lo s B) ≡ false = grind (arith, ints) in
    let b : int_lt (hi s B) x ≡ true = grind (arith, ints) in
    rw (a, b) refl

-- what stays in range, as a caller sees it
pub clamped-exact : (s : Bool) (B : ℕ) (x z : ℤ) → InRange s B x → z ≡ clamp s B x → z ≡ x
clamped-exact s B x z h e = e ∙ clamp-fits s B x h

pub clamped-above : (s : Bool) (B : ℕ) (x z : ℤ) → 1 ≤ B → hi s B <ℤ x → z ≡ clamp s B x → z ≡ hi s B
clamped-above s B x z h f e = e ∙ clamp-above s B x h f

pub clamped-below : (s : Bool) (B : ℕ) (x z : ℤ) → x <ℤ lo s B → z ≡ clamp s B x → z ≡ lo s B
clamped-below s B x z f e = e ∙ clamp-below s B x f

-- a number clamped by two tests, where l and h are the ends
pub clamped-low : (s : Bool) (B : ℕ) (x l : ℤ) (b : Bool) → l ≡ lo s B → b ≡ int_lt x l → b ≡ true → l ≡ clamp s B x
clamped-low s B x l b e f t = let u : x <ℤ lo s B = grind (arith, ints) in e ∙ sym (clamp-below s B x u)

pub clamped-high : (s : Bool) (B : ℕ) (x h : ℤ) (b : Bool) → 1 ≤ B → h ≡ hi s B → b ≡ int_lt h x → b ≡ true → h ≡ clamp s B x
clamped-high s B x h b one e f t = let u : hi s B <ℤ x = grind (arith, ints) in e ∙ sym (clamp-above s B x one u)

pub clamped-between : (s : Bool) (B : ℕ) (x l h : ℤ) (a b : Bool) → l ≡ lo s B → h ≡ hi s B → a ≡ int_lt x l → a ≡ false → b ≡ int_lt h x → b ≡ false → x ≡ clamp s B x
clamped-between s B x l h a b d e f t g u = clamp-in_range s B x x (record { low = grind (arith, ints); high = grind (arith, ints) }) refl

-- a number out of range, on the side that the flag gives
pub clamp-out : (s : Bool) (B : ℕ) (x : ℤ) (low : Bool) → 1 ≤ B → (InRange s B x → ⊥) → (low ≡ true → x ≤ℤ pos 0) → (low ≡ false → lo s B ≤ℤ x)
    → range_end s B low ≡ clamp s B x
clamp-out s B x true h n f g = ⊎_elim (λ i. absurd (n i))
    (⊎_elim (λ b. sym (clamp-below s B x b)) (λ a. let z = (zero-in_range s B h).high in let t = f refl in absurd (omega (arith, ints)))) (three_ways s B x)
clamp-out s B x false h n f g = ⊎_elim (λ i. absurd (n i))
    (⊎_elim (λ b. let t = g refl in absurd (omega (arith, ints))) (λ a. sym (clamp-above s B x h a))) (three_ways s B x)

pub below-true : (y : ℤ) (b : Bool) → b ≡ int_lt y (pos 0) → b ≡ true → y <ℤ pos 0
below-true y b e t = grind (arith, ints)

pub below-false : (y : ℤ) (b : Bool) → b ≡ int_lt y (pos 0) → b ≡ false → pos 0 ≤ℤ y
below-false y b e t = grind (arith, ints)

pub add-saturates : (s : Bool) (B : ℕ) (x y z : ℤ) (b : Bool) → 1 ≤ B → InRange s B x → InRange s B y → (InRange s B (x +ℤ y) → ⊥)
    → b ≡ int_lt y (pos 0) → z ≡ range_end s B b → z ≡ clamp s B (x +ℤ y)
add-saturates s B x y z b h f g n e w =
    w ∙ clamp-out s B (x +ℤ y) b h n
    (λ t. let u = below-true y b e t in by_lt_z (hi s B) (x +ℤ y)
    (λ a. let k = f.high in absurd (omega (arith, ints)))
    (λ a. by_lt_z (pos 0) (x +ℤ y) (λ c. let l = (zero-in_range s B h).low in absurd (n (record { low = omega (arith, ints); high = a }))) (λ c. c)))
    (λ t. let u = below-false y b e t in let k = f.low in omega (arith, ints))

pub sub-saturates : (s : Bool) (B : ℕ) (x y z : ℤ) (b : Bool) → 1 ≤ B → InRange s B x → InRange s B y → (InRange s B (x -ℤ y) → ⊥)
    → b ≡ int_lt y (pos 0) → z ≡ range_end s B (not b) → z ≡ clamp s B (x -ℤ y)
sub-saturates s B x y z true h f g n e w =
    w ∙ clamp-out s B (x -ℤ y) false h n (λ t. cc) (λ t. let u = below-true y true e refl in let k = f.low in omega (arith, ints))
sub-saturates s B x y z false h f g n e w =
    w ∙ clamp-out s B (x -ℤ y) true h n
    (λ t. let u = below-false y false e refl in by_lt_z (hi s B) (x -ℤ y)
    (λ a. let k = f.high in absurd (omega (arith, ints)))
    (λ a. by_lt_z (pos 0) (x -ℤ y) (λ c. let l = (zero-in_range s B h).low in absurd (n (record { low = omega (arith, ints); high = a }))) (λ c. c)))
    (λ t. cc)

pub mul-saturates : (s : Bool) (B : ℕ) (x y z : ℤ) (a b : Bool) → 1 ≤ B → (InRange s B (x *ℤ y) → ⊥)
    → a ≡ int_lt x (pos 0) → b ≡ int_lt y (pos 0) → z ≡ range_end s B (not (beq a b)) → z ≡ clamp s B (x *ℤ y)
mul-saturates s B x y z true true h n d e w =
    w ∙ clamp-out s B (x *ℤ y) false h n (λ t. cc)
    (λ t. let p = mul-both_below x y (below-true x true d refl) (below-true y true e refl) in let l = (zero-in_range s B h).low in omega (arith, ints))
mul-saturates s B x y z false false h n d e w =
    w ∙ clamp-out s B (x *ℤ y) false h n (λ t. cc)
    (λ t. let p = mul-from_zero x y (below-false x false d refl) (below-false y false e refl) in let l = (zero-in_range s B h).low in omega (arith, ints))
mul-saturates s B x y z true false h n d e w =
    w ∙ clamp-out s B (x *ℤ y) true h n (λ t. let p = mul-first_below x y (below-true x true d refl) (below-false y false e refl) in omega (arith, ints)) (λ t. cc)
mul-saturates s B x y z false true h n d e w =
    w ∙ clamp-out s B (x *ℤ y) true h n (λ t. let p = mul-second_below x y (below-false x false d refl) (below-true y true e refl) in omega (arith, ints)) (λ t. cc)

pub div-saturates : (s : Bool) (B : ℕ) (x y z : ℤ) → 1 ≤ B → InRange s B x → InRange s B y → (InRange s B (int_div x y) → ⊥)
    → z ≡ hi s B → z ≡ clamp s B (int_div x y)
div-saturates s B x y z h f g n w =
    w ∙ clamp-out s B (int_div x y) false h n (λ t. cc) (λ t. low_enough s B x y h f g)

-- the flag is set exactly where the checked result is none
pub overflows : {T : Type 0} (number : T → ℤ) (s : Bool) (B : ℕ) (x : ℤ) (o : Option T) (b : Bool)
    → SomeIff (option_map number o) (InRange s B x) x → is_some o ≡ not b → IsTrue b ↔ ¬ (InRange s B x)
overflows number s B x None true h e = ((λ t. h), (λ t. refl))
overflows number s B x None false h e = cc
overflows number s B x (Some v) true h e = cc
overflows number s B x (Some v) false h e = ((λ t. cc), (λ t. absurd (t h.0)))

-- the ends, from how far the range reaches below 0
pub wrap-reach : (s : Bool) (B h : ℕ) → 1 ≤ B → pos h ≡ neg_ℤ (lo s B) → wrap s B (pos h) ≡ lo s B
wrap-reach false B h one e =
    let i = zero-in_range false B one in
    ap (wrap false B) e ∙ wrap-of_in_range false B (pos 0) one i
wrap-reach true B h one e =
    let p = pow_half B one in let q = span true B one in let r = pow_pos B in
    wrap-unique true B (pos h) (lo true B) one (record { low = omega (arith, ints); high = omega (arith, ints) })
    (Congruent-from_apart B _ _ (1, 0, omega (arith, ints)))

-- one below the pattern of the low end wraps to the high end
pub wrap-below_reach : (s : Bool) (B h n : ℕ) → 1 ≤ B → B ≤ 128 → h ≤ 2 ^ 128 → pos h ≡ neg_ℤ (lo s B) → n ≡ (h + (2 ^ 128 - 1)) % 2 ^ 128 → wrap s B (pos n) ≡ hi s B
wrap-below_reach s B h n one g f e m =
    let q = span s B one in let r = pow_pos B in
    let c : Congruent 128 (pos n) (pos (h + (2 ^ 128 - 1))) = subst (λ (k : ℕ). Congruent 128 (pos k) (pos (h + (2 ^ 128 - 1)))) (sym m) (mod-congruent 128 _) in
    let d : Congruent 128 (pos (h + (2 ^ 128 - 1))) (neg_ℤ (lo s B) -ℤ pos 1) = Congruent-from_apart 128 _ _ (0, 1, omega (arith, ints)) in
    let u : Congruent B (pos n) (neg_ℤ (lo s B) -ℤ pos 1) = Congruent-narrower B 128 _ _ g (Congruent-trans 128 _ _ _ c d) in
    wrap-unique s B (pos n) (hi s B) one (record { low = omega (arith, ints); high = omega (arith, ints) })
    (Congruent-trans B _ _ _ (top s B one) (Congruent-sym B _ _ u))
  where
    top : (s : Bool) (B : ℕ) → 1 ≤ B → Congruent B (hi s B) (neg_ℤ (lo s B) -ℤ pos 1)
    top false B h = Congruent-from_apart B _ _ (0, 1, omega (arith, ints))
    top true B h = Congruent-from_apart B _ _ (0, 0, omega (arith, ints))

-- what is clamped is in range
pub clamp-InRange : (s : Bool) (B : ℕ) (x y : ℤ) → 1 ≤ B → y ≡ clamp s B x → InRange s B y
unfolding clamp
clamp-InRange s B x y h e = subst (λ (z : ℤ). InRange s B z) (sym e) (within (int_lt x (lo s B)) (int_lt (hi s B) x) refl refl)
  where
    ends : lo s B ≤ℤ hi s B
    ends = let q = span s B h in let r = pow_pos B in omega (arith, ints)

    within : (a b : Bool) → int_lt x (lo s B) ≡ a → int_lt (hi s B) x ≡ b → InRange s B (clamp s B x)
    within true b p q = rw p (let m = ends in record { low = omega (arith, ints); high = omega (arith, ints) })
    within false true p q = rw (p, q) (let m = ends in record { low = omega (arith, ints); high = omega (arith, ints) })
    within false false p q = rw (p, q) (record { low = grind (arith, ints); high = grind (arith, ints) })
