-- Sums and differences from the bits that two numbers share and those that only one has: the carries and the
-- borrows. BitsBesideSums.antt has sums of results of `&`, `|` and `^`.
use Rattle.std.specs.Prelude.{Bool, map, not, pos, ℕ, ℤ, ◌+ℤ◌, ◌≡◌, ◌≤◌}
use Rattle.std.proofs.Common.{ap, arith, subst, ◌∙◌}
use Rattle.std.proofs.lemmas.Int.{ints}
use Rattle.arbitrary_base.specs.BitList.{bits, bits_and, num}
use Rattle.arbitrary_base.specs.Operation.{bitwise_and, bitwise_not, bitwise_or, bitwise_xor, wrapped_difference, wrapped_sum}
use Rattle.arbitrary_base.specs.Residue.{Congruent}
use Rattle.arbitrary_base.proofs.bit_lists.Pointwise.{and-comm}
use Rattle.arbitrary_base.proofs.bit_lists.UnsignedNumber.{same_length}
use Rattle.arbitrary_base.proofs.operations.BitsAndSums.{and-in_range, natural, num-and_not, num-or_and, num-xor_and, of-list, or-in_range, xor-in_range}
use Rattle.arbitrary_base.proofs.operations.Definition.{bits-and, bits-not, bits-or, bits-xor}
use Rattle.arbitrary_base.proofs.operations.WrappedRing.{by-congruence, difference-congruent, difference-in_range, sum-congruent, sum-in_range}

-- ---- what numbers are congruent to, by these bits

-- the bits that both have
abbrev shared : ℕ → ℤ → ℤ → ℤ
shared B x y = pos (num (bits_and (bits B x) (bits B y)))

-- the bits that x has, and y has not
abbrev only : ℕ → ℤ → ℤ → ℤ
only B x y = pos (num (bits_and (bits B x) (map not (bits B y))))

first : (B : ℕ) (x y : ℤ) → Congruent B x (shared B x y +ℤ only B x y)
first B x y =
    let e = num-and_not (bits B x) (bits B y) (same_length B x y) in
    subst (Congruent B x) (let d : pos (num (bits B x)) ≡ shared B x y +ℤ only B x y = omega (arith, ints) in d) (natural B x)

second : (B : ℕ) (x y : ℤ) → Congruent B y (shared B x y +ℤ only B y x)
second B x y = subst (λ (n : ℕ). Congruent B y (pos n +ℤ only B y x)) (ap num (and-comm (bits B y) (bits B x))) (first B y x)

of-and : (s : Bool) (B : ℕ) (x y : ℤ) → Congruent B (bitwise_and s B x y) (shared B x y)
of-and s B x y = of-list B _ _ (bits-and s B x y)

of-only : (s : Bool) (B : ℕ) (x y : ℤ) → Congruent B (bitwise_and s B x (bitwise_not s B y)) (only B x y)
of-only s B x y = of-list B _ _ (bits-and s B x _ ∙ ap (bits_and (bits B x)) (bits-not s B y))

of-or : (s : Bool) (B : ℕ) (x y : ℤ) → Congruent B (bitwise_or s B x y) (shared B x y +ℤ only B x y +ℤ only B y x)
of-or s B x y =
    let a = num-or_and (bits B x) (bits B y) (same_length B x y) in
    let b = num-and_not (bits B x) (bits B y) (same_length B x y) in
    let c = num-and_not (bits B y) (bits B x) (same_length B y x) in
    let d = ap num (and-comm (bits B x) (bits B y)) in
    subst (Congruent B _) (omega (arith, ints)) (of-list B _ _ (bits-or s B x y))

of-xor : (s : Bool) (B : ℕ) (x y : ℤ) → Congruent B (bitwise_xor s B x y) (only B x y +ℤ only B y x)
of-xor s B x y =
    let a = num-or_and (bits B x) (bits B y) (same_length B x y) in
    let b = num-and_not (bits B x) (bits B y) (same_length B x y) in
    let c = num-and_not (bits B y) (bits B x) (same_length B y x) in
    let d = ap num (and-comm (bits B x) (bits B y)) in
    let e = num-xor_and (bits B x) (bits B y) (same_length B x y) in
    subst (Congruent B _) (omega (arith, ints)) (of-list B _ _ (bits-xor s B x y))

-- ---- a sum

pub sum-with_carry : (s : Bool) (B : ℕ) (x y : ℤ) → 1 ≤ B
    → wrapped_sum s B (bitwise_xor s B x y) (wrapped_sum s B (bitwise_and s B x y) (bitwise_and s B x y)) ≡ wrapped_sum s B x y
sum-with_carry s B x y h =
    by-congruence s B _ _ _ _ h (sum-in_range s B _ _ h) (sum-in_range s B x y h)
    (sum-congruent s B _ _ _ _ (of-xor s B x y) (sum-congruent s B _ _ _ _ (of-and s B x y) (of-and s B x y)))
    (sum-congruent s B x y _ _ (first B x y) (second B x y)) (omega (arith, ints))

pub sum-less_xor : (s : Bool) (B : ℕ) (x y : ℤ) → 1 ≤ B
    → wrapped_difference s B (wrapped_sum s B (bitwise_or s B x y) (bitwise_or s B x y)) (bitwise_xor s B x y) ≡ wrapped_sum s B x y
sum-less_xor s B x y h =
    by-congruence s B _ _ _ _ h (difference-in_range s B _ _ h) (sum-in_range s B x y h)
    (difference-congruent s B _ _ _ _ (sum-congruent s B _ _ _ _ (of-or s B x y) (of-or s B x y)) (of-xor s B x y))
    (sum-congruent s B x y _ _ (first B x y) (second B x y)) (omega (arith, ints))

pub sum-less_or : (s : Bool) (B : ℕ) (x y : ℤ) → 1 ≤ B → wrapped_difference s B (wrapped_sum s B x y) (bitwise_or s B x y) ≡ bitwise_and s B x y
sum-less_or s B x y h =
    by-congruence s B _ _ _ _ h (difference-in_range s B _ _ h) (and-in_range s B x y h)
    (difference-congruent s B _ _ _ _ (sum-congruent s B x y _ _ (first B x y) (second B x y)) (of-or s B x y))
    (of-and s B x y) (omega (arith, ints))

pub sum-less_and : (s : Bool) (B : ℕ) (x y : ℤ) → 1 ≤ B → wrapped_difference s B (wrapped_sum s B x y) (bitwise_and s B x y) ≡ bitwise_or s B x y
sum-less_and s B x y h =
    by-congruence s B _ _ _ _ h (difference-in_range s B _ _ h) (or-in_range s B x y h)
    (difference-congruent s B _ _ _ _ (sum-congruent s B x y _ _ (first B x y) (second B x y)) (of-and s B x y))
    (of-or s B x y) (omega (arith, ints))

-- ---- a difference

pub difference-of_parts : (s : Bool) (B : ℕ) (x y : ℤ) → 1 ≤ B
    → wrapped_difference s B (bitwise_and s B x (bitwise_not s B y)) (bitwise_and s B y (bitwise_not s B x)) ≡ wrapped_difference s B x y
difference-of_parts s B x y h =
    by-congruence s B _ _ _ _ h (difference-in_range s B _ _ h) (difference-in_range s B x y h)
    (difference-congruent s B _ _ _ _ (of-only s B x y) (of-only s B y x))
    (difference-congruent s B x y _ _ (first B x y) (second B x y)) (omega (arith, ints))

pub difference-with_borrow : (s : Bool) (B : ℕ) (x y : ℤ) → 1 ≤ B
    → wrapped_difference s B (bitwise_xor s B x y) (wrapped_sum s B (bitwise_and s B y (bitwise_not s B x)) (bitwise_and s B y (bitwise_not s B x)))
    ≡ wrapped_difference s B x y
difference-with_borrow s B x y h =
    by-congruence s B _ _ _ _ h (difference-in_range s B _ _ h) (difference-in_range s B x y h)
    (difference-congruent s B _ _ _ _ (of-xor s B x y) (sum-congruent s B _ _ _ _ (of-only s B y x) (of-only s B y x)))
    (difference-congruent s B x y _ _ (first B x y) (second B x y)) (omega (arith, ints))

pub difference-less_xor : (s : Bool) (B : ℕ) (x y : ℤ) → 1 ≤ B
    → wrapped_difference s B (wrapped_sum s B (bitwise_and s B x (bitwise_not s B y)) (bitwise_and s B x (bitwise_not s B y))) (bitwise_xor s B x y)
    ≡ wrapped_difference s B x y
difference-less_xor s B x y h =
    by-congruence s B _ _ _ _ h (difference-in_range s B _ _ h) (difference-in_range s B x y h)
    (difference-congruent s B _ _ _ _ (sum-congruent s B _ _ _ _ (of-only s B x y) (of-only s B x y)) (of-xor s B x y))
    (difference-congruent s B x y _ _ (first B x y) (second B x y)) (omega (arith, ints))

-- ---- bits by a sum or a difference

pub or-is_sum : (s : Bool) (B : ℕ) (x y : ℤ) → 1 ≤ B → bitwise_or s B x y ≡ wrapped_sum s B (bitwise_and s B x (bitwise_not s B y)) y
or-is_sum s B x y h =
    by-congruence s B _ _ _ _ h (or-in_range s B x y h) (sum-in_range s B _ y h) (of-or s B x y)
    (sum-congruent s B _ y _ _ (of-only s B x y) (second B x y)) (omega (arith, ints))

pub xor-is_sum : (s : Bool) (B : ℕ) (x y : ℤ) → 1 ≤ B
    → bitwise_xor s B x y ≡ wrapped_sum s B (bitwise_and s B x (bitwise_not s B y)) (bitwise_and s B y (bitwise_not s B x))
xor-is_sum s B x y h =
    by-congruence s B _ _ _ _ h (xor-in_range s B x y h) (sum-in_range s B _ _ h) (of-xor s B x y)
    (sum-congruent s B _ _ _ _ (of-only s B x y) (of-only s B y x)) (omega (arith, ints))

pub or-less_xor : (s : Bool) (B : ℕ) (x y : ℤ) → 1 ≤ B → wrapped_difference s B (bitwise_or s B x y) (bitwise_xor s B x y) ≡ bitwise_and s B x y
or-less_xor s B x y h =
    by-congruence s B _ _ _ _ h (difference-in_range s B _ _ h) (and-in_range s B x y h)
    (difference-congruent s B _ _ _ _ (of-or s B x y) (of-xor s B x y)) (of-and s B x y) (omega (arith, ints))
