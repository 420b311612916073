-- A signed number with its sign bit toggled, `x ^ min_value()`, read as an unsigned number: the numbers are from 0
-- up, in the same order. Callers name the set `turned_signs`.
use Rattle.std.specs.Cmp.{int_ranks}
use Rattle.std.specs.Ordering.{int_cmp}
use Rattle.std.specs.Prelude.{false, neg_ℤ, pos, suc, true, unsigned_abs, zero, ℕ, ℤ, ◌*◌, ◌+ℤ◌, ◌-ℤ◌, ◌-◌, ◌^◌, ◌≡◌, ◌≤◌}
use Rattle.std.proofs.Common.{ap, ap₂, arith, subst, ◌∙◌}
use Rattle.std.proofs.lemmas.Bool.Decides.{Decides-int_eq}
use Rattle.std.proofs.lemmas.Int.{ints}
use Rattle.std.proofs.lemmas.Nat.{pow_pos}
use Rattle.arbitrary_base.specs.Operation.{bitwise_xor}
use Rattle.arbitrary_base.specs.Range.{InRange, lo}
use Rattle.arbitrary_base.specs.Residue.{Congruent, wrap}
use Rattle.arbitrary_base.proofs.modular.Congruence.{Congruent-add, Congruent-refl, Congruent-sym, Congruent-trans, pow_half}
use Rattle.arbitrary_base.proofs.modular.Residue.{congruent-same, wrap-congruent, wrap-in_range, wrap-unique}
use Rattle.arbitrary_base.proofs.operations.BitsAndSums.{xor-in_range}
use Rattle.arbitrary_base.proofs.operations.WrappedRing.{difference-congruent, sum-congruent}
use Rattle.arbitrary_laws.proofs.sums.HighestBit.{difference-with_highest, sum-with_highest}

module _ (B : ℕ) (x y : ℤ) (h : 1 ≤ B) (f : InRange true B x) (e : y ≡ lo true B) where
  -- modulo 2 ^ B, turning the highest bit adds it or takes it away
  apart : Congruent B (x -ℤ y) (bitwise_xor true B x y)
  apart =
      let p = pow_half B h in
      let w : unsigned_abs y * 2 ≡ 2 ^ B = ap (λ (z : ℤ). unsigned_abs z * 2) e ∙ twice (2 ^ (B - 1)) (2 ^ B) p in
      subst (λ (z : ℤ). Congruent B (x -ℤ y) z) (difference-with_highest true B x y h w)
      (Congruent-sym B _ _ (difference-congruent true B x y x y (Congruent-refl B x) (Congruent-refl B y)))
    where
      twice : (m n : ℕ) → n ≡ 2 * m → unsigned_abs (neg_ℤ (pos m)) * 2 ≡ n
      twice zero n d = omega arith
      twice (suc m) n d = omega arith

  pub turned-number : wrap false B (bitwise_xor true B x y) ≡ x -ℤ y
  turned-number =
      let p = pow_half B h in
      let q = pow_pos (B - 1) in
      let u = f.low in
      let v = f.high in
      wrap-unique false B _ (x -ℤ y) h (record { low = omega (arith, ints); high = omega (arith, ints) }) apart

-- the order of two, for each test of it
pub turned-order : (B : ℕ) (x y z : ℤ) → 1 ≤ B → InRange true B x → InRange true B y → z ≡ lo true B
    → int_cmp (wrap false B (bitwise_xor true B x z)) (wrap false B (bitwise_xor true B y z)) ≡ int_cmp x y
turned-order B x y z h f g e = ap₂ int_cmp (turned-number B x z h f e) (turned-number B y z h g e) ∙ moved x y z
  where
    moved : (a b c : ℤ) → int_cmp (a -ℤ c) (b -ℤ c) ≡ int_cmp a b
    moved a b c = grind (arith, ints, int_ranks)

-- numbers whose sign is turned over
pub ruleset turned_signs = (Decides-int_eq, turned-number, turned-order)

-- ---- the same for a number with no sign

-- an unsigned number with its highest bit turned over: the number of its bits with a sign, moved up
module _ (B n : ℕ) (x : ℤ) (h : 1 ≤ B) (e : n ≡ 2 ^ (B - 1)) where
  turned : (z : ℤ) → InRange true B z → Congruent B z x → bitwise_xor false B x (pos n) ≡ z +ℤ pos n
  turned z i c =
      let p = pow_half B h in
      let w : n * 2 ≡ 2 ^ B = omega arith in
      let l = i.low in
      let t = i.high in
      let d : Congruent B (z +ℤ pos n) (x +ℤ pos n) = Congruent-add B z x (pos n) (pos n) c (Congruent-refl B (pos n)) in
      let s : Congruent B (bitwise_xor false B x (pos n)) (x +ℤ pos n) =
      subst (λ (y : ℤ). Congruent B y (x +ℤ pos n)) (sum-with_highest false B x (pos n) h w)
      (sum-congruent false B x (pos n) x (pos n) (Congruent-refl B x) (Congruent-refl B (pos n))) in
      congruent-same false B _ _ h (xor-in_range false B x (pos n) h) (record { low = omega (arith, ints); high = omega (arith, ints) })
      (Congruent-trans B _ (x +ℤ pos n) _ s (Congruent-sym B _ _ d))

  pub highest-turned : bitwise_xor false B x (pos n) ≡ wrap true B x +ℤ pos n
  highest-turned = turned (wrap true B x) (wrap-in_range true B x h) (wrap-congruent true B x)

pub highest-turned_back : (B n : ℕ) (x : ℤ) → 1 ≤ B → n ≡ 2 ^ (B - 1) → InRange true B x → bitwise_xor false B (wrap false B x) (pos n) ≡ x +ℤ pos n
highest-turned_back B n x h e f = turned B n (wrap false B x) h e x f (Congruent-sym B _ _ (wrap-congruent false B x))

moved_up : (a b c : ℤ) → int_cmp (a +ℤ c) (b +ℤ c) ≡ int_cmp a b
moved_up a b c = grind (arith, ints, int_ranks)

-- the order of two such numbers, for each test of it
pub highest-turned_order : (B n : ℕ) (x y : ℤ) → 1 ≤ B → n ≡ 2 ^ (B - 1)
    → int_cmp (bitwise_xor false B x (pos n)) (bitwise_xor false B y (pos n)) ≡ int_cmp (wrap true B x) (wrap true B y)
highest-turned_order B n x y h e = ap₂ int_cmp (highest-turned B n x h e) (highest-turned B n y h e) ∙ moved_up (wrap true B x) (wrap true B y) (pos n)

pub highest-turned_order_back : (B n : ℕ) (x y : ℤ) → 1 ≤ B → n ≡ 2 ^ (B - 1) → InRange true B x → InRange true B y
    → int_cmp (bitwise_xor false B (wrap false B x) (pos n)) (bitwise_xor false B (wrap false B y) (pos n)) ≡ int_cmp x y
highest-turned_order_back B n x y h e f g = ap₂ int_cmp (highest-turned_back B n x h e f) (highest-turned_back B n y h e g) ∙ moved_up x y (pos n)

-- numbers with no sign whose highest bit is turned over, and the same bits with a sign
pub ruleset turned_orders = (Decides-int_eq, highest-turned_order, highest-turned_order_back)
