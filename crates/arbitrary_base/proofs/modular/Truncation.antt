-- Why the code of `truncation` is right.
use Rattle.std.specs.Prelude.{◌≡◌, ℕ, ℤ, Bool, true, false, ◌&&◌, pos, neg_ℤ, int_le, ◌+ℤ◌, ◌-ℤ◌, ◌+◌, ◌-◌, ◌%◌, ◌^◌, ◌≤◌, ◌<◌, unsigned_abs}
use Rattle.std.proofs.Common.{arith, refl, ap, sym, subst, ◌∙◌, mod-lt, lit≤}
use Rattle.std.proofs.lemmas.Int.{ints}
use Rattle.std.proofs.lemmas.Nat.{pow_pos}
use Rattle.std.proofs.Math.Pow.{mod-mod-pow}
use Rattle.arbitrary_base.specs.Range.{lo, hi, InRange, in_range}
use Rattle.arbitrary_base.specs.Residue.{Congruent, residue, wrap}
use Rattle.arbitrary_base.proofs.modular.Congruence.{Congruent-from_apart, Congruent-sym, Congruent-trans, Congruent-narrower, pow_le}
use Rattle.arbitrary_base.proofs.modular.Residue.{wrap-congruent, residue-lt, residue-congruent, congruent-same, wrap-unique, wrap-same, wrap-in_range, wrap-of_in_range}
use Rattle.arbitrary_base.proofs.storages.Primitive.{unsigned-in_range, mod-congruent}

-- the test is whether a number is in range
pub in_range-true : (s : Bool) (B : ℕ) (x : ℤ) → InRange s B x → in_range s B x ≡ true
unfolding in_range
in_range-true s B x f =
    let a : int_le (lo s B) x ≡ true = grind (arith, ints) in
    let b : int_le x (hi s B) ≡ true = grind (arith, ints) in
    rw (a, b) refl

pub in_range-false : (s : Bool) (B : ℕ) (x : ℤ) → (InRange s B x → ⊥) → in_range s B x ≡ false
unfolding in_range
in_range-false s B x f = by_tests (int_le (lo s B) x) (int_le x (hi s B)) refl refl
  where
    by_tests : (t u : Bool) → int_le (lo s B) x ≡ t → int_le x (hi s B) ≡ u → (t && u) ≡ false
    by_tests true true p q = absurd (f (record { low = grind (arith, ints); high = grind (arith, ints) }))
    by_tests true false p q = refl
    by_tests false u p q = refl

-- a wider type has each number
pub InRange-wider : (s : Bool) (A B : ℕ) (x : ℤ) → 1 ≤ A → A ≤ B → InRange s A x → InRange s B x
InRange-wider false A B x h g f =
    let p = pow_le A B g in
    record { low = f.low; high = let e = f.high in omega (arith, ints) }
InRange-wider true A B x h g f =
    let p = pow_le (A - 1) (B - 1) (omega arith) in
    record { low = let e = f.low in omega (arith, ints); high = let e = f.high in omega (arith, ints) }

-- a type with a bit more has each number of an unsigned one, and a signed one with a bit more has each number of either sign
pub InRange-of_unsigned : (s : Bool) (A B : ℕ) (x : ℤ) → 1 ≤ A → A < B → InRange false A x → InRange s B x
InRange-of_unsigned false A B x h g f = InRange-wider false A B x h (omega arith) f
InRange-of_unsigned true A B x h g f =
    let p = pow_le A (B - 1) (omega arith) in
    record { low = let e = f.low in let o = pow_pos (B - 1) in omega (arith, ints); high = let e = f.high in omega (arith, ints) }

pub InRange-signed : (s : Bool) (A B : ℕ) (x : ℤ) → 1 ≤ A → A < B → InRange s A x → InRange true B x
InRange-signed false A B x h g f = InRange-of_unsigned true A B x h g f
InRange-signed true A B x h g f = InRange-wider true A B x h (omega arith) f

pub widened : (s : Bool) (B R : ℕ) (x z : ℤ) → 1 ≤ B → B < R → InRange s B x → z ≡ x → InRange s R z
widened s B R x z h g f e = subst (λ (y : ℤ). InRange s R y) (sym e) (InRange-wider s B R x h (omega arith) f)

-- the truncation of a number is in range
pub InRange-of_wrap : (s : Bool) (B : ℕ) (x y : ℤ) → 1 ≤ B → y ≡ wrap s B x → InRange s B y
InRange-of_wrap s B x y h e = subst (λ (z : ℤ). InRange s B z) (sym e) (wrap-in_range s B x h)

-- the residue is what the unsigned type has
pub residue-wrap : (B : ℕ) (x : ℤ) → 1 ≤ B → pos (residue B x) ≡ wrap false B x
residue-wrap B x h = sym (wrap-unique false B x (pos (residue B x)) h (unsigned-in_range B _ (residue-lt B x)) (residue-congruent B x))

-- the residue at fewer bits
pub masked-congruent : (A B : ℕ) (x : ℤ) → A ≤ B → Congruent A (pos (residue B x % 2 ^ A)) x
masked-congruent A B x h =
    Congruent-trans A _ (pos (residue B x)) x (mod-congruent A (residue B x)) (Congruent-narrower A B _ x h (residue-congruent B x))

pub residue-mod : (A B : ℕ) (x : ℤ) → 1 ≤ A → A ≤ B → residue B x % 2 ^ A ≡ residue A x
residue-mod A B x one h =
    ap unsigned_abs (congruent-same false A (pos (residue B x % 2 ^ A)) (pos (residue A x)) one
    (unsigned-in_range A _ (mod-lt (residue B x) (pow_pos A))) (unsigned-in_range A _ (residue-lt A x))
    (Congruent-trans A _ x _ (masked-congruent A B x h) (Congruent-sym A _ x (residue-congruent A x))))

-- adding the reach below 0, cutting and taking it off again extends a pattern
pub extended_by : (s : Bool) (B low h a q r : ℕ) → B ≤ 128 → pos h ≡ neg_ℤ (lo s B) → h ≤ 2 ^ 128 → a ≡ (low + h) % 2 ^ 128 → q ≡ a % 2 ^ B
    → r ≡ (q + (2 ^ 128 - h)) % 2 ^ 128 → Congruent 128 (pos r) (wrap s B (pos low))
unfolding wrap residue
extended_by s B low h a q r k e f g m n =
    let l : pos low -ℤ lo s B ≡ pos (low + h) = omega (arith, ints) in
    let c : (128 - B) + B ≡ 128 = omega arith in
    let d : (low + h) % 2 ^ 128 % 2 ^ B ≡ (low + h) % 2 ^ B = subst (λ (j : ℕ). (low + h) % 2 ^ j % 2 ^ B ≡ (low + h) % 2 ^ B) c (mod-mod-pow (low + h) (128 - B) B) in
    let t : q ≡ (low + h) % 2 ^ B = m ∙ ap (λ (i : ℕ). i % 2 ^ B) g ∙ d in
    let u : residue B (pos low -ℤ lo s B) ≡ q = ap (residue B) l ∙ sym t in
    let w : wrap s B (pos low) ≡ lo s B +ℤ pos q = ap (λ (i : ℕ). lo s B +ℤ pos i) u in
    let v : lo s B +ℤ pos q ≡ pos q -ℤ pos h = omega (arith, ints) in
    let p : Congruent 128 (pos r) (pos (q + (2 ^ 128 - h))) = subst (λ (i : ℕ). Congruent 128 (pos i) (pos (q + (2 ^ 128 - h)))) (sym n) (mod-congruent 128 (q + (2 ^ 128 - h))) in
    let o : Congruent 128 (pos (q + (2 ^ 128 - h))) (pos q -ℤ pos h) = Congruent-from_apart 128 _ _ (0, 1, omega (arith, ints)) in
    subst (λ (z : ℤ). Congruent 128 (pos r) z) (sym (w ∙ v)) (Congruent-trans 128 _ _ _ p o)

pub low_mask-number : (B n : ℕ) → n + 1 ≡ 2 ^ B → pos n ≡ pos (2 ^ B) -ℤ pos 1
low_mask-number B n e = omega (arith, ints)

pub ruleset low_mask_laws = (low_mask-number)

pub masked-residue : (B W p : ℕ) (x : ℤ) → 1 ≤ B → B ≤ W → p ≡ residue W x → p % 2 ^ B ≡ residue B x
masked-residue B W p x h g e = ap (λ (n : ℕ). n % 2 ^ B) e ∙ residue-mod B W x h g

-- and where there is no sign it is the truncated number, in the storage
pub masked-number : (s : Bool) (B W p q : ℕ) (x z : ℤ) → s ≡ false → 1 ≤ B → B ≤ W → p ≡ residue W x → q ≡ p % 2 ^ B → z ≡ wrap s W (pos q) → z ≡ wrap s B x
masked-number true B W p q x z t h g e f n = cc
masked-number false B W p q x z t h g e f n =
    let k : pos q ≡ wrap false B x = ap pos (f ∙ masked-residue B W p x h g e) ∙ residue-wrap B x h in
    n ∙ wrap-of_in_range false W (pos q) (omega arith) (InRange-wider false B W (pos q) h g (InRange-of_wrap false B x (pos q) h k)) ∙ k

pub below_residue : (B p : ℕ) (x : ℤ) → p ≡ residue B x → p < 2 ^ B
below_residue B p x e = subst (λ (n : ℕ). n < 2 ^ B) (sym e) (residue-lt B x)

-- a number from 0 up is its residue at each width that has it
pub residue-same : (s : Bool) (B W p : ℕ) (x : ℤ) → s ≡ false → 1 ≤ B → B ≤ W → InRange s B x → p ≡ residue W x → p ≡ residue B x
residue-same s B W p x e h g i f =
    let j : InRange false B x = subst (λ (t : Bool). InRange t B x) e i in
    let a : pos (residue W x) ≡ x = residue-wrap W x (omega arith) ∙ wrap-of_in_range false W x (omega arith) (InRange-wider false B W x h g j) in
    let b : pos (residue B x) ≡ x = residue-wrap B x h ∙ wrap-of_in_range false B x h j in
    f ∙ omega (arith, ints)

-- the pattern of a number, extended, is its residue at 128 bits
pub to_u128_bits-is : (s t : Bool) (W V p q : ℕ) (x : ℤ) → 1 ≤ W → InRange s W x → t ≡ s → V ≡ W → p ≡ residue W x → q < 2 ^ 128
    → Congruent 128 (pos q) (wrap t V (pos p)) → q ≡ residue 128 x
to_u128_bits-is s t W V p q x h i e f m n c =
    let a : wrap t V (pos p) ≡ x = (λ k. wrap (e k) (f k) (pos (m k))) ∙ wrap-same s W _ x (residue-congruent W x) ∙ wrap-of_in_range s W x h i in
    let d : Congruent 128 (pos q) x = subst (λ (z : ℤ). Congruent 128 (pos q) z) a c in
    ap unsigned_abs (congruent-same false 128 (pos q) (pos (residue 128 x)) (lit≤ tt)
    (unsigned-in_range 128 q n) (unsigned-in_range 128 (residue 128 x) (residue-lt 128 x))
    (Congruent-trans 128 _ x _ d (Congruent-sym 128 _ x (residue-congruent 128 x))))

-- the truncation of the residue at 128 bits is the truncation of the number
pub wrap-residue : (s : Bool) (B p : ℕ) (x z : ℤ) → 1 ≤ B → B ≤ 128 → p ≡ residue 128 x → z ≡ wrap s B (pos p) → z ≡ wrap s B x
wrap-residue s B p x z h g e f =
    f ∙ ap (λ (n : ℕ). wrap s B (pos n)) e
    ∙ wrap-same s B (pos (residue 128 x)) x (Congruent-narrower B 128 _ x g (residue-congruent 128 x))

-- the bits of a number, and the number of its bits
pub pattern-of_number : (s : Bool) (B : ℕ) (x y z : ℤ) → s ≡ false → 1 ≤ B → y ≡ x → z ≡ wrap s B y → z ≡ pos (residue B x)
pattern-of_number s B x y z e h g f = f ∙ (λ i. wrap (e i) B (g i)) ∙ sym (residue-wrap B x h)

pub number-of_pattern : (s t : Bool) (B : ℕ) (p x z : ℤ) → t ≡ false → 1 ≤ B → InRange t B p → x ≡ wrap s B p → z ≡ x → pos (residue B z) ≡ p
number-of_pattern s t B p x z e h f g k =
    let i : InRange false B p = subst (λ (u : Bool). InRange u B p) e f in
    residue-wrap B z h ∙ wrap-same false B z p (subst (λ (y : ℤ). Congruent B y p) (sym (k ∙ g)) (wrap-congruent s B p)) ∙ wrap-of_in_range false B p h i

pub ruleset patterns = (pattern-of_number, number-of_pattern)
