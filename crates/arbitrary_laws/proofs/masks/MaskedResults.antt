-- The low bits of a sum, a difference or a product that wraps, under a constant mask, such as `(x + y) & 15`.
-- Masks of the operands that keep these bits change nothing, and bits that are shifted past the mask are lost,
-- also under `|` and `^`. Callers name the set `masked_results`.
use Rattle.std.specs.Prelude.{Bool, false, pos, ℕ, ℤ, ◌%◌, ◌*ℤ◌, ◌+ℤ◌, ◌+◌, ◌-ℤ◌, ◌-◌, ◌^◌, ◌≡◌, ◌≤ℤ◌, ◌≤◌}
use Rattle.std.proofs.Common.{ap, arith, mod-eq_of_lt, subst, sym, ◌∙◌}
use Rattle.std.proofs.lemmas.Bool.Decides.{Decides-int_eq}
use Rattle.std.proofs.lemmas.Grind.{low_zeros}
use Rattle.std.proofs.lemmas.Int.{ints}
use Rattle.arbitrary_base.specs.Operation.{bitwise_and, bitwise_or, bitwise_xor, shifted_left, wrapped_difference, wrapped_product, wrapped_sum}
use Rattle.arbitrary_base.specs.Range.{InRange, hi}
use Rattle.arbitrary_base.specs.Residue.{Congruent}
use Rattle.arbitrary_base.proofs.integers.Ring.{mul_assoc_z}
use Rattle.arbitrary_base.proofs.modular.Congruence.{Congruent-add, Congruent-by_times, Congruent-mul, Congruent-narrower, Congruent-refl, Congruent-sub, Congruent-sym, Congruent-trans, pow_split}
use Rattle.arbitrary_base.proofs.modular.Residue.{congruent-same}
use Rattle.arbitrary_base.proofs.operations.BitsAndSums.{and-in_range}
use Rattle.arbitrary_base.proofs.operations.Bitwise.{bitwise_and-commutes, bitwise_or-commutes, bitwise_xor-commutes}
use Rattle.arbitrary_base.proofs.operations.KnownMask.{and-congruent, and-within}
use Rattle.arbitrary_base.proofs.operations.Shift.{shifted_left-is_product}
use Rattle.arbitrary_base.proofs.operations.WrappedRing.{difference-congruent, product-congruent, sum-congruent, wrapped_sum-commutes}
use Rattle.arbitrary_laws.proofs.bits.Identities.{and-distributes_or, and-distributes_xor, bitwise_and-zero, bitwise_or-zero, bitwise_xor-zero}

remainder : (n p : ℕ) → n + 1 ≡ p → n % p + 1 ≡ p
remainder n p e = let r : n % p ≡ n = mod-eq_of_lt (omega arith) in omega arith

-- a mask n of ones alone, k from the lowest bit up
module _ (s : Bool) (B n : ℕ) (some : 1 ≤ B) (f : pos n ≤ℤ hi s B) (g : low_zeros 128 (n + 1) ≤ B) (one : 1 ≤ low_zeros 128 (n + 1)) (ones : n + 1 ≡ 2 ^ low_zeros 128 (n + 1)) where
  kept : (z : ℤ) → Congruent (low_zeros 128 (n + 1)) (bitwise_and s B z (pos n)) z
  kept z = and-congruent s B n z some f g (remainder n _ ones)

  in_mask : (z : ℤ) → InRange false (low_zeros 128 (n + 1)) (bitwise_and s B z (pos n))
  in_mask z = let w = and-within s B n z some f in let e = w.1 in let l = w.2 in record { low = omega (arith, ints); high = omega (arith, ints) }

  same : (z w : ℤ) → Congruent (low_zeros 128 (n + 1)) z w → bitwise_and s B z (pos n) ≡ bitwise_and s B w (pos n)
  same z w c =
      let k = low_zeros 128 (n + 1) in
      congruent-same false k _ _ one (in_mask z) (in_mask w) (Congruent-trans k _ z _ (kept z) (Congruent-trans k z w _ c (Congruent-sym k _ _ (kept w))))

  module _ (x y a b : ℤ) (c : Congruent (low_zeros 128 (n + 1)) x a) (d : Congruent (low_zeros 128 (n + 1)) y b) where
    narrow : (z w : ℤ) → Congruent B z w → Congruent (low_zeros 128 (n + 1)) z w
    narrow z w e = Congruent-narrower (low_zeros 128 (n + 1)) B z w g e

    steps : (p q r t : ℤ) → Congruent B p q → Congruent B r t → Congruent (low_zeros 128 (n + 1)) q t → bitwise_and s B p (pos n) ≡ bitwise_and s B r (pos n)
    steps p q r t e h i =
        let k = low_zeros 128 (n + 1) in
        same p r (Congruent-trans k p q r (narrow p q e) (Congruent-trans k q t r i (Congruent-sym k r t (narrow r t h))))

    sums : bitwise_and s B (wrapped_sum s B x y) (pos n) ≡ bitwise_and s B (wrapped_sum s B a b) (pos n)
    sums =
        steps _ _ _ _ (sum-congruent s B x y x y (Congruent-refl B x) (Congruent-refl B y)) (sum-congruent s B a b a b (Congruent-refl B a) (Congruent-refl B b))
        (Congruent-add _ x a y b c d)

    differences : bitwise_and s B (wrapped_difference s B x y) (pos n) ≡ bitwise_and s B (wrapped_difference s B a b) (pos n)
    differences =
        steps _ _ _ _ (difference-congruent s B x y x y (Congruent-refl B x) (Congruent-refl B y)) (difference-congruent s B a b a b (Congruent-refl B a) (Congruent-refl B b))
        (Congruent-sub _ x a y b c d)

    products : bitwise_and s B (wrapped_product s B x y) (pos n) ≡ bitwise_and s B (wrapped_product s B a b) (pos n)
    products =
        steps _ _ _ _ (product-congruent s B x y x y (Congruent-refl B x) (Congruent-refl B y)) (product-congruent s B a b a b (Congruent-refl B a) (Congruent-refl B b))
        (Congruent-mul _ x a y b c d)

  -- an operand under a mask m that keeps these bits
  module _ (m : ℕ) (x y : ℤ) (h : pos m ≤ℤ hi s B) (l : low_zeros 128 (m + 1) ≤ B) (e : m % 2 ^ low_zeros 128 (m + 1) + 1 ≡ 2 ^ low_zeros 128 (m + 1))
      (more : low_zeros 128 (n + 1) ≤ low_zeros 128 (m + 1)) where
    inner : Congruent (low_zeros 128 (n + 1)) (bitwise_and s B x (pos m)) x
    inner = Congruent-narrower _ (low_zeros 128 (m + 1)) _ x more (and-congruent s B m x some h l e)

    still : Congruent (low_zeros 128 (n + 1)) y y
    still = Congruent-refl _ y

    pub sum-masked_left : bitwise_and s B (wrapped_sum s B (bitwise_and s B x (pos m)) y) (pos n) ≡ bitwise_and s B (wrapped_sum s B x y) (pos n)
    sum-masked_left = sums _ y x y inner still

    pub sum-masked_right : bitwise_and s B (wrapped_sum s B y (bitwise_and s B x (pos m))) (pos n) ≡ bitwise_and s B (wrapped_sum s B y x) (pos n)
    sum-masked_right = sums y _ y x still inner

    pub difference-masked_left : bitwise_and s B (wrapped_difference s B (bitwise_and s B x (pos m)) y) (pos n) ≡ bitwise_and s B (wrapped_difference s B x y) (pos n)
    difference-masked_left = differences _ y x y inner still

    pub difference-masked_right : bitwise_and s B (wrapped_difference s B y (bitwise_and s B x (pos m))) (pos n) ≡ bitwise_and s B (wrapped_difference s B y x) (pos n)
    difference-masked_right = differences y _ y x still inner

    pub product-masked_left : bitwise_and s B (wrapped_product s B (bitwise_and s B x (pos m)) y) (pos n) ≡ bitwise_and s B (wrapped_product s B x y) (pos n)
    product-masked_left = products _ y x y inner still

    pub product-masked_right : bitwise_and s B (wrapped_product s B y (bitwise_and s B x (pos m))) (pos n) ≡ bitwise_and s B (wrapped_product s B y x) (pos n)
    product-masked_right = products y _ y x still inner

  -- an operand that is shifted past these bits
  module _ (x y : ℤ) (j : ℕ) (past : low_zeros 128 (n + 1) ≤ j) (within : j ≤ B) where
    gone : Congruent (low_zeros 128 (n + 1)) (shifted_left s B x j) (pos 0)
    gone =
        let k = low_zeros 128 (n + 1) in
        let p : pos (2 ^ j) ≡ pos (2 ^ (j - k)) *ℤ pos (2 ^ k) = let e = pow_split k j past in omega (arith, ints) in
        let d : x *ℤ pos (2 ^ j) -ℤ pos 0 ≡ x *ℤ pos (2 ^ (j - k)) *ℤ pos (2 ^ k) =
        (let z : x *ℤ pos (2 ^ j) -ℤ pos 0 ≡ x *ℤ pos (2 ^ j) = omega (arith, ints) in z) ∙ ap (λ (z : ℤ). x *ℤ z) p ∙ sym (mul_assoc_z x (pos (2 ^ (j - k))) (pos (2 ^ k))) in
        let c : Congruent k (x *ℤ pos (2 ^ j)) (pos 0) = Congruent-by_times k _ _ (x *ℤ pos (2 ^ (j - k))) d in
        subst (λ (z : ℤ). Congruent k z (pos 0)) (sym (shifted_left-is_product s B x j some within))
        (Congruent-trans k _ _ _ (Congruent-narrower k B _ _ g (product-congruent s B x (pos (2 ^ j)) x (pos (2 ^ j)) (Congruent-refl B x) (Congruent-refl B _))) c)

    pub left-masked_away : bitwise_and s B (shifted_left s B x j) (pos n) ≡ pos 0
    left-masked_away = same _ (pos 0) gone ∙ bitwise_and-commutes s B (pos 0) (pos n) ∙ bitwise_and-zero s B (pos n) some

    -- with an operand that is not shifted
    beside : (op : Bool → ℕ → ℤ → ℤ → ℤ) → ((a b : ℤ) → bitwise_and s B (pos n) (op s B a b) ≡ op s B (bitwise_and s B (pos n) a) (bitwise_and s B (pos n) b))
        → ((z : ℤ) → InRange s B z → op s B (pos 0) z ≡ z) → bitwise_and s B (op s B (shifted_left s B x j) y) (pos n) ≡ bitwise_and s B y (pos n)
    beside op distributes nothing =
        bitwise_and-commutes s B _ (pos n) ∙ distributes (shifted_left s B x j) y
        ∙ ap (λ (z : ℤ). op s B z (bitwise_and s B (pos n) y)) (bitwise_and-commutes s B (pos n) _ ∙ left-masked_away)
        ∙ nothing _ (and-in_range s B (pos n) y some) ∙ bitwise_and-commutes s B (pos n) y

    pub or-past : bitwise_and s B (bitwise_or s B (shifted_left s B x j) y) (pos n) ≡ bitwise_and s B y (pos n)
    or-past = beside bitwise_or (and-distributes_or s B (pos n)) (λ z r. bitwise_or-commutes s B (pos 0) z ∙ bitwise_or-zero s B z some r)

    pub xor-past : bitwise_and s B (bitwise_xor s B (shifted_left s B x j) y) (pos n) ≡ bitwise_and s B y (pos n)
    xor-past = beside bitwise_xor (and-distributes_xor s B (pos n)) (λ z r. bitwise_xor-commutes s B (pos 0) z ∙ bitwise_xor-zero s B z some r)

    zero-added : Congruent B (wrapped_sum s B y (pos 0)) y
    zero-added = subst (Congruent B (wrapped_sum s B y (pos 0))) (let e : y +ℤ pos 0 ≡ y = omega (arith, ints) in e) (sum-congruent s B y (pos 0) y (pos 0) (Congruent-refl B y) (Congruent-refl B (pos 0)))

    pub sum-past_right : bitwise_and s B (wrapped_sum s B y (shifted_left s B x j)) (pos n) ≡ bitwise_and s B y (pos n)
    sum-past_right = sums y _ y (pos 0) (Congruent-refl _ y) gone ∙ same _ y (Congruent-narrower _ B _ y g zero-added)

    pub sum-past_left : bitwise_and s B (wrapped_sum s B (shifted_left s B x j) y) (pos n) ≡ bitwise_and s B y (pos n)
    sum-past_left = ap (λ (z : ℤ). bitwise_and s B z (pos n)) (wrapped_sum-commutes s B _ y some) ∙ sum-past_right

pub ruleset masked_results = (Decides-int_eq, sum-masked_left, sum-masked_right, difference-masked_left, difference-masked_right, product-masked_left, product-masked_right, left-masked_away, sum-past_left, sum-past_right, or-past, xor-past, bitwise_or-commutes, bitwise_xor-commutes)
