-- The sign of an expression on bits of two numbers and their difference or sum decides their order, their
-- equality, or an overflow. Each law has one whole formula, proved from the highest bits of its parts. The search
-- would split each number by its sign and each difference by how it wraps, and find no proof. Callers name the set
-- `sign_tests`.
use Rattle.std.specs.Bool.{beq}
use Rattle.std.specs.Ordering.{int_cmp, int_eq, is_ge, is_le, is_lt}
use Rattle.std.specs.Prelude.{Bool, List, false, get_or, int_lt, length, map, not, pos, true, ℕ, ℤ, ◌&&◌, ◌+ℤ◌, ◌-ℤ◌, ◌-◌, ◌<ℤ◌, ◌||◌, ◌↔◌, ◌≡◌, ◌≤ℤ◌, ◌≤◌}
use Rattle.std.proofs.Common.{IsTrue, ap, ap₂, arith, refl, subst, sym, ◌∙◌}
use Rattle.std.proofs.lemmas.Bool.Decides.{Decides-int_eq}
use Rattle.std.proofs.lemmas.Int.{ints}
use Rattle.std.proofs.lemmas.List.{get_or-map}
use Rattle.arbitrary_base.specs.BitList.{bits, fill}
use Rattle.arbitrary_base.specs.Operation.{bitwise_and, bitwise_not, bitwise_or, bitwise_xor, wrapped_difference, wrapped_sum}
use Rattle.arbitrary_base.specs.Range.{InRange, hi, in_range, lo}
use Rattle.arbitrary_base.proofs.bit_lists.UnsignedNumber.{length-bits, length-not}
use Rattle.arbitrary_base.proofs.modular.Residue.{wrap-of_in_range}
use Rattle.arbitrary_base.proofs.operations.BitsAndSums.{and-in_range, or-in_range, xor-in_range}
use Rattle.arbitrary_base.proofs.operations.Bitwise.{bitwise_and-commutes, bitwise_or-commutes, bitwise_xor-commutes}
use Rattle.arbitrary_base.proofs.operations.Definition.{bits-and, bits-not, bits-or, bits-xor, difference-is, not-in_range}
use Rattle.arbitrary_base.proofs.operations.Shift.{fill-pointwise}
use Rattle.arbitrary_base.proofs.operations.WrappedRing.{difference-in_range, wrapped_difference-self, wrapped_sum-commutes, wrapped_sum-zero}
use Rattle.arbitrary_laws.proofs.orders.Order.{and-negative, fill-is_negative, ge-tested, gt-tested, le-tested, lt-tested, or-negative, xor-negative}
use Rattle.arbitrary_laws.proofs.signs.OverflowBits.{difference-overflow_sign, sum-overflow_flag, sum-overflow_sign}
use Rattle.arbitrary_laws.proofs.sums.Ring.{difference-turned, sum-of_difference}

-- ---- the highest bit

unfoldable sign_bit : ℕ → ℤ → Bool
sign_bit B x = fill true (bits B x)

sign-is : (B : ℕ) (x : ℤ) → sign_bit B x ≡ fill true (bits B x)
unfolding sign_bit
sign-is B x = refl

sign-is_negative : (B : ℕ) (x : ℤ) → 1 ≤ B → InRange true B x → sign_bit B x ≡ int_lt x (pos 0)
sign-is_negative B x h f = sign-is B x ∙ fill-is_negative B x h f

last-not : (l : List Bool) → 1 ≤ length l → fill true (map not l) ≡ not (fill true l)
last-not l h =
    ap (λ (k : ℕ). get_or (map not l) (k - 1) false) (length-not l)
    ∙ get_or-map not l (length l - 1) false false (omega arith)

not-bit : (B : ℕ) (x : ℤ) → 1 ≤ B → sign_bit B (bitwise_not true B x) ≡ not (sign_bit B x)
not-bit B x h = sign-is B _ ∙ ap (fill true) (bits-not true B x) ∙ last-not (bits B x) (omega (arith, length-bits B x)) ∙ ap not (sym (sign-is B x))

and-bit : (B : ℕ) (x y : ℤ) → sign_bit B (bitwise_and true B x y) ≡ (sign_bit B x && sign_bit B y)
and-bit B x y = sign-is B _ ∙ ap (fill true) (bits-and true B x y) ∙ fill-pointwise (λ a b. a && b) true B x y refl ∙ ap₂ (λ a b. a && b) (sym (sign-is B x)) (sym (sign-is B y))

or-bit : (B : ℕ) (x y : ℤ) → sign_bit B (bitwise_or true B x y) ≡ (sign_bit B x || sign_bit B y)
or-bit B x y = sign-is B _ ∙ ap (fill true) (bits-or true B x y) ∙ fill-pointwise (λ a b. a || b) true B x y refl ∙ ap₂ (λ a b. a || b) (sym (sign-is B x)) (sym (sign-is B y))

xor-bit : (B : ℕ) (x y : ℤ) → sign_bit B (bitwise_xor true B x y) ≡ not (beq (sign_bit B x) (sign_bit B y))
xor-bit B x y = sign-is B _ ∙ ap (fill true) (bits-xor true B x y) ∙ fill-pointwise (λ a b. not (beq a b)) true B x y refl ∙ ap₂ (λ a b. not (beq a b)) (sym (sign-is B x)) (sym (sign-is B y))

lt-is : (x y : ℤ) → is_lt (int_cmp x y) ≡ int_lt x y
lt-is x y = let a = lt-tested x y in grind (arith, ints, a)

-- the test of a number in range whose highest bit is `b`
by-bit : (B : ℕ) (z : ℤ) (b : Bool) → 1 ≤ B → InRange true B z → sign_bit B z ≡ b → is_lt (int_cmp z (pos 0)) ≡ b
by-bit B z b h f e = lt-is z (pos 0) ∙ sym (sign-is_negative B z h f) ∙ e

-- the sign of a complement, where two numbers are equal if it is negative: `!((x - y) | (y - x)) < 0`
pub not-sign : (B : ℕ) (x : ℤ) → 1 ≤ B → InRange true B x → is_lt (int_cmp (bitwise_not true B x) (pos 0)) ≡ not (is_lt (int_cmp x (pos 0)))
not-sign B x h f = by-bit B _ _ h (not-in_range true B x h) (not-bit B x h ∙ ap not (sign-is_negative B x h f ∙ sym (lt-is x (pos 0))))

-- ---- the order: what holds of both signs `a` and `b`, that of the difference `d`, and `l` that the first number is below the second

abbrev Ordered : Bool → Bool → Bool → Bool → Type 0
Ordered a b d l = (a ≡ b → d ≡ l) × (a ≡ true → b ≡ false → l ≡ true) × (a ≡ false → b ≡ true → l ≡ false)

pick-bits : (a b d l : Bool) → Ordered a b d l → ((a && not b) || (not (not (beq a b)) && d)) ≡ l
pick-bits true true d l o = o.0 refl
pick-bits false false d l o = o.0 refl
pick-bits true false d l o = sym (o.1 refl refl)
pick-bits false true d l o = sym (o.2 refl refl)

pick-turned : (a b d l : Bool) → Ordered a b d l → not (beq d (not (beq a b) && not (beq d a))) ≡ l
pick-turned true true true l o = o.0 refl
pick-turned true true false l o = o.0 refl
pick-turned false false true l o = o.0 refl
pick-turned false false false l o = o.0 refl
pick-turned true false true l o = sym (o.1 refl refl)
pick-turned true false false l o = sym (o.1 refl refl)
pick-turned false true true l o = sym (o.2 refl refl)
pick-turned false true false l o = sym (o.2 refl refl)

-- of `y` and `x`, for `x <= y`
pick-most : (a b d l : Bool) → Ordered b a d l → ((a || not b) && (not (beq a b) || not d)) ≡ not l
pick-most true true d l o = ap not (o.0 refl)
pick-most false false d l o = ap not (o.0 refl)
pick-most true false d l o = sym (ap not (o.2 refl refl))
pick-most false true d l o = sym (ap not (o.1 refl refl))

module _ (B : ℕ) (x y : ℤ) (h : 1 ≤ B) (f : InRange true B x) (g : InRange true B y) where
  exact-sign : lo true B ≤ℤ (x -ℤ y) → (x -ℤ y) ≤ℤ hi true B → sign_bit B (wrapped_difference true B x y) ≡ int_lt x y
  exact-sign l u =
      let e = difference-is true B x y ∙ wrap-of_in_range true B (x -ℤ y) h (record { low = l; high = u }) in
      sign-is_negative B _ h (difference-in_range true B x y h) ∙ ap (λ (z : ℤ). int_lt z (pos 0)) e ∙ moved x y
    where
      moved : (a b : ℤ) → int_lt (a -ℤ b) (pos 0) ≡ int_lt a b
      moved a b = grind (arith, ints)

  like : (b : Bool) → sign_bit B x ≡ b → sign_bit B y ≡ b → sign_bit B (wrapped_difference true B x y) ≡ int_lt x y
  like true p q =
      let a : int_lt x (pos 0) ≡ true = sym (sign-is_negative B x h f) ∙ p in
      let b : int_lt y (pos 0) ≡ true = sym (sign-is_negative B y h g) ∙ q in
      let k = f.low in
      let l = g.low in
      let c : x <ℤ pos 0 = grind (arith, ints, a) in
      let d : y <ℤ pos 0 = grind (arith, ints, b) in
      exact-sign (omega (arith, ints)) (omega (arith, ints))
  like false p q =
      let a : int_lt x (pos 0) ≡ false = sym (sign-is_negative B x h f) ∙ p in
      let b : int_lt y (pos 0) ≡ false = sym (sign-is_negative B y h g) ∙ q in
      let k = f.high in
      let l = g.high in
      let c : pos 0 ≤ℤ x = grind (arith, ints, a) in
      let d : pos 0 ≤ℤ y = grind (arith, ints, b) in
      exact-sign (omega (arith, ints)) (omega (arith, ints))

  ordered : Ordered (sign_bit B x) (sign_bit B y) (sign_bit B (wrapped_difference true B x y)) (int_lt x y)
  ordered =
      let p = sign-is_negative B x h f in
      let q = sign-is_negative B y h g in (
        (λ e. like (sign_bit B y) e refl),
        (λ a b. let c : int_lt x (pos 0) ≡ true = sym p ∙ a in let d : int_lt y (pos 0) ≡ false = sym q ∙ b in grind (arith, ints, c, d)),
        (λ a b. let c : int_lt x (pos 0) ≡ false = sym p ∙ a in let d : int_lt y (pos 0) ≡ true = sym q ∙ b in grind (arith, ints, c, d)),
      )

module _ (B : ℕ) (x y : ℤ) (h : 1 ≤ B) (f : InRange true B x) (g : InRange true B y) where
  pub below-by_bits : is_lt (int_cmp (bitwise_or true B (bitwise_and true B x (bitwise_not true B y)) (bitwise_and true B (bitwise_not true B (bitwise_xor true B x y)) (wrapped_difference true B x y))) (pos 0))
      ≡ is_lt (int_cmp x y)
  below-by_bits =
      let d = wrapped_difference true B x y in
      by-bit B _ _ h (or-in_range true B _ _ h)
      (or-bit B _ _ ∙ ap₂ (λ a b. a || b) (and-bit B _ _ ∙ ap (λ a. sign_bit B x && a) (not-bit B y h)) (and-bit B _ _ ∙ ap (λ a. a && sign_bit B d) (not-bit B _ h ∙ ap not (xor-bit B x y)))
      ∙ pick-bits _ _ _ _ (ordered B x y h f g))
      ∙ sym (lt-is x y)

  pub below-by_overflow : is_lt (int_cmp (bitwise_xor true B (wrapped_difference true B x y) (bitwise_and true B (bitwise_xor true B x y) (bitwise_xor true B (wrapped_difference true B x y) x))) (pos 0))
      ≡ is_lt (int_cmp x y)
  below-by_overflow =
      let d = wrapped_difference true B x y in
      by-bit B _ _ h (xor-in_range true B _ _ h)
      (xor-bit B _ _ ∙ ap (λ a. not (beq (sign_bit B d) a)) (and-bit B _ _ ∙ ap₂ (λ a b. a && b) (xor-bit B x y) (xor-bit B d x)) ∙ pick-turned _ _ _ _ (ordered B x y h f g))
      ∙ sym (lt-is x y)

  pub most-by_bits : is_lt (int_cmp (bitwise_and true B (bitwise_or true B x (bitwise_not true B y)) (bitwise_or true B (bitwise_xor true B x y) (bitwise_not true B (wrapped_difference true B y x)))) (pos 0))
      ≡ is_le (int_cmp x y)
  most-by_bits =
      let d = wrapped_difference true B y x in
      let e = le-tested x y in
      let l : not (int_lt y x) ≡ is_le (int_cmp x y) = grind (arith, ints, e) in
      by-bit B _ _ h (and-in_range true B _ _ h)
      (and-bit B _ _ ∙ ap₂ (λ a b. a && b) (or-bit B _ _ ∙ ap (λ a. sign_bit B x || a) (not-bit B y h)) (or-bit B _ _ ∙ ap₂ (λ a b. a || b) (xor-bit B x y) (not-bit B d h))
      ∙ pick-most _ _ _ _ (ordered B y x h g f) ∙ l)

-- ---- whether a number is 0, and whether two are equal

module _ (B : ℕ) (x : ℤ) (h : 1 ≤ B) (f : InRange true B x) where
  negated-bit : pos 0 ≤ℤ x → sign_bit B (wrapped_difference true B (pos 0) x) ≡ int_lt (pos 0) x
  negated-bit l =
      let u = f.high in
      let e = difference-is true B (pos 0) x ∙ wrap-of_in_range true B (pos 0 -ℤ x) h (record { low = omega (arith, ints); high = omega (arith, ints) }) in
      sign-is_negative B _ h (difference-in_range true B (pos 0) x h) ∙ ap (λ (z : ℤ). int_lt z (pos 0)) e ∙ (let d : int_lt (pos 0 -ℤ x) (pos 0) ≡ int_lt (pos 0) x = grind (arith, ints) in d)

  either-bit : (b : Bool) → int_lt x (pos 0) ≡ b → (b || sign_bit B (wrapped_difference true B (pos 0) x)) ≡ not (int_eq x (pos 0))
  either-bit true e = let d = Decides-int_eq x (pos 0) in grind (arith, ints, e, d)
  either-bit false e = let d = Decides-int_eq x (pos 0) in let l : pos 0 ≤ℤ x = grind (arith, ints, e) in negated-bit l ∙ (let t : int_lt (pos 0) x ≡ not (int_eq x (pos 0)) = grind (arith, ints, l, d) in t)

  pub not_zero-by_sign : is_lt (int_cmp (bitwise_or true B x (wrapped_difference true B (pos 0) x)) (pos 0)) ≡ not (int_eq x (pos 0))
  not_zero-by_sign =
      by-bit B _ _ h (or-in_range true B _ _ h) (or-bit B _ _ ∙ ap (λ a. a || sign_bit B (wrapped_difference true B (pos 0) x)) (sign-is_negative B x h f) ∙ either-bit _ refl)

  both-bit : (b : Bool) → int_lt x (pos 0) ≡ b → (sign_bit B (wrapped_difference true B (pos 0) x) && not b) ≡ int_lt (pos 0) x
  both-bit true e = grind (arith, ints, e)
  both-bit false e = let l : pos 0 ≤ℤ x = grind (arith, ints, e) in let d = negated-bit l in grind (arith, ints, d)

  pub positive-by_sign : is_lt (int_cmp (bitwise_and true B (wrapped_difference true B (pos 0) x) (bitwise_not true B x)) (pos 0)) ≡ is_lt (int_cmp (pos 0) x)
  positive-by_sign =
      by-bit B _ _ h (and-in_range true B _ _ h)
      (and-bit B _ _ ∙ ap (λ a. sign_bit B (wrapped_difference true B (pos 0) x) && a) (not-bit B x h ∙ ap not (sign-is_negative B x h f)) ∙ both-bit _ refl)
      ∙ sym (lt-is (pos 0) x)

pub differ-by_sign : (B : ℕ) (x y : ℤ) → 1 ≤ B → InRange true B x → InRange true B y
    → is_lt (int_cmp (bitwise_or true B (wrapped_difference true B x y) (wrapped_difference true B y x)) (pos 0)) ≡ not (int_eq x y)
differ-by_sign B x y h f g =
    let d = wrapped_difference true B x y in
    let i = difference-in_range true B x y h in
    ap (λ (z : ℤ). is_lt (int_cmp (bitwise_or true B d z) (pos 0))) (sym (difference-turned true B x y h)) ∙ not_zero-by_sign B d h i
    ∙ alike (λ e. sym (sum-of_difference true B x y h f) ∙ ap (λ (z : ℤ). wrapped_sum true B z y) e ∙ wrapped_sum-commutes true B (pos 0) y h ∙ wrapped_sum-zero true B y h g)
    (λ e. ap (λ (z : ℤ). wrapped_difference true B x z) (sym e) ∙ wrapped_difference-self true B x h)
  where
    alike : (wrapped_difference true B x y ≡ pos 0 → x ≡ y) → (x ≡ y → wrapped_difference true B x y ≡ pos 0) → not (int_eq (wrapped_difference true B x y) (pos 0)) ≡ not (int_eq x y)
    alike p q = let a = Decides-int_eq (wrapped_difference true B x y) (pos 0) in let b = Decides-int_eq x y in grind (arith, a, b)

-- ---- an overflow of a sum, where the operands' signs are alike

pick-like : (a b s : Bool) → (not (not (beq a b)) && not (beq a s)) ≡ (not (beq a s) && not (beq b s))
pick-like true true true = refl
pick-like true true false = refl
pick-like true false true = refl
pick-like true false false = refl
pick-like false true true = refl
pick-like false true false = refl
pick-like false false true = refl
pick-like false false false = refl

module _ (B : ℕ) (x y : ℤ) (h : 1 ≤ B) (f : InRange true B x) (g : InRange true B y) where
  pub like-overflow_flag : is_lt (int_cmp (bitwise_and true B (bitwise_not true B (bitwise_xor true B x y)) (bitwise_xor true B x (wrapped_sum true B x y))) (pos 0))
      ≡ not (in_range true B (x +ℤ y))
  like-overflow_flag =
      let s = wrapped_sum true B x y in
      by-bit B _ _ h (and-in_range true B _ _ h)
      (and-bit B _ _ ∙ ap₂ (λ a b. a && b) (not-bit B _ h ∙ ap not (xor-bit B x y)) (xor-bit B x s) ∙ pick-like _ _ _
      ∙ sym (and-bit B (bitwise_xor true B x s) (bitwise_xor true B y s) ∙ ap₂ (λ a b. a && b) (xor-bit B x s) (xor-bit B y s))
      ∙ sign-is_negative B _ h (and-in_range true B (bitwise_xor true B x s) (bitwise_xor true B y s) h) ∙ sym (lt-is (bitwise_and true B (bitwise_xor true B x s) (bitwise_xor true B y s)) (pos 0)) ∙ sum-overflow_flag B x y h f g)

  pub like-overflow_sign : (bitwise_and true B (bitwise_not true B (bitwise_xor true B x y)) (bitwise_xor true B x (wrapped_sum true B x y)) <ℤ pos 0) ↔ ¬ (InRange true B (x +ℤ y))
  like-overflow_sign =
      let s = wrapped_sum true B x y in
      let a = lt-tested (bitwise_and true B (bitwise_not true B (bitwise_xor true B x y)) (bitwise_xor true B x s)) (pos 0) in
      let b = lt-tested (bitwise_and true B (bitwise_xor true B x s) (bitwise_xor true B y s)) (pos 0) in
      let e = like-overflow_flag ∙ sym (sum-overflow_flag B x y h f g) in
      let t = sum-overflow_sign B x y h f g in
      ((λ w. t.0 (b.0 (subst (λ (v : Bool). IsTrue v) e (a.1 w)))), (λ w. a.0 (subst (λ (v : Bool). IsTrue v) (sym e) (b.1 (t.1 w)))))

-- an overflow by signs, where a checked call is asked or a flag
pub ruleset overflow_tests = (lt-tested, sum-overflow_sign, difference-overflow_sign, like-overflow_sign, bitwise_and-commutes, bitwise_xor-commutes)

-- so that a law of `< 0` serves `>= 0` too
pub ge-by_lt : (x y : ℤ) → is_ge (int_cmp x y) ≡ not (is_lt (int_cmp x y))
ge-by_lt x y = let a = lt-tested x y in let b = ge-tested x y in grind (arith, ints, a, b)

-- the order of two numbers, and whether they are equal, by a sign
pub ruleset sign_tests = (Decides-int_eq, le-tested, lt-tested, ge-tested, gt-tested, ge-by_lt, and-negative, or-negative, xor-negative, not-sign, below-by_bits, below-by_overflow, most-by_bits, not_zero-by_sign, positive-by_sign, differ-by_sign, like-overflow_flag, bitwise_and-commutes, bitwise_or-commutes, bitwise_xor-commutes)
