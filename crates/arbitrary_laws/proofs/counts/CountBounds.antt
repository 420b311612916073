-- More laws of counts: of `^`, of shifted numbers and of one bit, and the runs of a constant. Callers name the set
-- `count_bounds`.
use Rattle.std.specs.Bool.{beq}
use Rattle.std.specs.List.{count_by, prefix_len, suffix_len}
use Rattle.std.specs.Prelude.{Bool, List, [], drop, false, length, not, pos, replicate, reverse, suc, take, true, zero, ℕ, ℤ, ◌&&◌, ◌++◌, ◌+◌, ◌-◌, ◌<◌, ◌^◌, ◌||◌, ◌∷◌, ◌≡◌, ◌≤◌, ◌⊎◌}
use Rattle.std.proofs.Common.{ap, arith, inl, inr, refl, take-append-drop, ◌∙◌}
use Rattle.std.proofs.lemmas.Grind.{low_zeros}
use Rattle.arbitrary_base.specs.BitList.{bits, bits_and, bits_or, bits_xor}
use Rattle.arbitrary_base.specs.Operation.{bitwise_and, bitwise_xor, reversed, shifted_left, shifted_right}
use Rattle.arbitrary_base.proofs.bit_lists.Count.{popcount-cons}
use Rattle.arbitrary_base.proofs.bit_lists.UnsignedNumber.{digit, length-bits, same_length}
use Rattle.arbitrary_base.proofs.operations.Definition.{bits-and, bits-left, bits-or, bits-right, bits-xor, bits-zero}
use Rattle.arbitrary_base.proofs.operations.PopulationAndRuns.{front-of_reversed, popcount-of_and, popcount-of_and_or}
use Rattle.arbitrary_calls.proofs.counts.RunBesideCount.{append-ones, front_ones-below_ones, front_zeros-beside_ones, tail_ones-below_ones, tail_zeros-beside_ones}
use Rattle.arbitrary_calls.proofs.counts.RunsByDigits.{front-counted}
use Rattle.arbitrary_laws.proofs.rotations.RotationsAndReversals.{reversed-shifted_right}
use Rattle.arbitrary_laws.proofs.written.KnownCount.{popcount-of_numeral}

one-end : (l : List Bool) → (prefix_len (beq false) l ≡ 0) ⊎ (prefix_len (beq true) l ≡ 0)
one-end [] = inl refl
one-end (true ∷ l) = inl refl
one-end (false ∷ l) = inr refl

pub front-alike_one : (B : ℕ) (x : ℤ) → (prefix_len (beq false) (bits B x) ≡ 0) ⊎ (prefix_len (beq true) (bits B x) ≡ 0)
front-alike_one B x = one-end (bits B x)

pub tail-alike_one : (B : ℕ) (x : ℤ) → (suffix_len (beq false) (bits B x) ≡ 0) ⊎ (suffix_len (beq true) (bits B x) ≡ 0)
tail-alike_one B x = one-end (reverse (bits B x))

-- ---- `^`

xor-and : (l m : List Bool) → length l ≡ length m → count_by (λ b. b) (bits_xor l m) + count_by (λ b. b) (bits_and l m) ≡ count_by (λ b. b) (bits_or l m)
xor-and [] [] e = refl
xor-and [] (b ∷ m) e = absurd (omega arith)
xor-and (a ∷ l) [] e = absurd (omega arith)
xor-and (a ∷ l) (b ∷ m) e =
    omega (arith, item a b, popcount-cons (not (beq a b)) (bits_xor l m), popcount-cons (a && b) (bits_and l m), popcount-cons (a || b) (bits_or l m), xor-and l m (omega arith))
  where
    item : (a b : Bool) → digit (not (beq a b)) + digit (a && b) ≡ digit (a || b)
    item true true = refl
    item true false = refl
    item false true = refl
    item false false = refl

pub popcount-of_xor : (s : Bool) (B : ℕ) (x y : ℤ)
    → count_by (λ b. b) (bits B (bitwise_xor s B x y)) + (count_by (λ b. b) (bits B (bitwise_and s B x y)) + count_by (λ b. b) (bits B (bitwise_and s B x y)))
    ≡ count_by (λ b. b) (bits B x) + count_by (λ b. b) (bits B y)
popcount-of_xor s B x y =
    let a = ap (count_by (λ b. b)) (bits-and s B x y) in
    let o = ap (count_by (λ b. b)) (bits-or s B x y) in
    let e = ap (count_by (λ b. b)) (bits-xor s B x y) in
    omega (arith, xor-and (bits B x) (bits B y) (same_length B x y), popcount-of_and_or s B x y)

-- ---- shifts

no-ones : (n : ℕ) → count_by (λ b. b) (replicate n false) ≡ 0
no-ones zero = refl
no-ones (suc n) = omega (arith, popcount-cons false (replicate n false), no-ones n)

take-ones : (k : ℕ) (l : List Bool) → count_by (λ b. b) (take k l) ≤ count_by (λ b. b) l
take-ones k l =
    let e = append-ones (take k l) (drop k l) in
    let f = ap (count_by (λ b. b)) (take-append-drop k l) in
    omega arith

drop-ones : (k : ℕ) (l : List Bool) → count_by (λ b. b) (drop k l) ≤ count_by (λ b. b) l
drop-ones k l =
    let e = append-ones (take k l) (drop k l) in
    let f = ap (count_by (λ b. b)) (take-append-drop k l) in
    omega arith

pub popcount-of_shifted_left : (s : Bool) (B k : ℕ) (x : ℤ) → k ≤ B → count_by (λ b. b) (bits B (shifted_left s B x k)) ≤ count_by (λ b. b) (bits B x)
popcount-of_shifted_left s B k x h =
    let e = ap (count_by (λ b. b)) (bits-left s B x k h) in
    omega (arith, append-ones (replicate k false) (take (length (bits B x) - k) (bits B x)), no-ones k, take-ones (length (bits B x) - k) (bits B x))

pub popcount-of_shifted_right : (B k : ℕ) (x : ℤ) → k ≤ B → count_by (λ b. b) (bits B (shifted_right false B x k)) ≤ count_by (λ b. b) (bits B x)
popcount-of_shifted_right B k x h =
    let e = ap (count_by (λ b. b)) (bits-right false B x k h) in
    omega (arith, append-ones (drop k (bits B x)) (replicate k false), no-ones k, drop-ones k (bits B x))

front-after : (k : ℕ) (l : List Bool) → prefix_len (beq false) (replicate k false ++ l) ≡ k + prefix_len (beq false) l
front-after zero l = (let e : prefix_len (beq false) l ≡ 0 + prefix_len (beq false) l = omega arith in e)
front-after (suc k) l = omega (arith, front-after k l)

pub front-of_shifted_left : (s : Bool) (B k : ℕ) (x : ℤ) → k ≤ B → k ≤ prefix_len (beq false) (bits B (shifted_left s B x k))
front-of_shifted_left s B k x h =
    let e = ap (prefix_len (beq false)) (bits-left s B x k h) in
    omega (arith, front-after k (take (length (bits B x) - k) (bits B x)))

pub tail-of_shifted_right : (B k : ℕ) (x : ℤ) → k ≤ B → k ≤ suffix_len (beq false) (bits B (shifted_right false B x k))
tail-of_shifted_right B k x h =
    let e = ap (λ (z : ℤ). prefix_len (beq false) (bits B z)) (reversed-shifted_right B x k h) in
    let f = front-of_reversed false false B (shifted_right false B x k) in
    omega (arith, front-of_shifted_left false B k (reversed false B x) h)

-- ---- one bit

pub bits-one : (B : ℕ) → bits (suc B) (pos 1) ≡ true ∷ replicate B false
unfolding bits
bits-one B = ap (λ (l : List Bool). true ∷ l) (bits-zero B)

after-one : (B k : ℕ) → k < B → take (B - k) (bits B (pos 1)) ≡ true ∷ take (B - k - 1) (replicate (B - 1) false)
after-one zero k h = absurd (omega arith)
after-one (suc B) k h =
    ap (take (suc B - k)) (bits-one B) ∙ step (suc B - k) (omega arith)
    ∙ ap (λ (n : ℕ). true ∷ take (suc B - k - 1) (replicate n false)) (let e : B ≡ suc B - 1 = omega arith in e)
  where
    step : (n : ℕ) → 1 ≤ n → take n (true ∷ replicate B false) ≡ true ∷ take (n - 1) (replicate B false)
    step zero g = absurd (omega arith)
    step (suc n) g = ap (λ (m : ℕ). true ∷ take m (replicate B false)) (let e : n ≡ suc n - 1 = omega arith in e)

pub bits-one_bit : (s : Bool) (B k : ℕ) → k < B → bits B (shifted_left s B (pos 1) k) ≡ replicate k false ++ (true ∷ take (B - k - 1) (replicate (B - 1) false))
bits-one_bit s B k h =
    bits-left s B (pos 1) k (omega arith)
    ∙ ap (λ (n : ℕ). replicate k false ++ take (n - k) (bits B (pos 1))) (length-bits B (pos 1))
    ∙ ap (λ (l : List Bool). replicate k false ++ l) (after-one B k h)

pub popcount-of_one_bit : (s : Bool) (B k : ℕ) → k < B → count_by (λ b. b) (bits B (shifted_left s B (pos 1) k)) ≡ 1
popcount-of_one_bit s B k h =
    let t = take (B - k - 1) (replicate (B - 1) false) in
    ap (count_by (λ b. b)) (bits-one_bit s B k h)
    ∙ omega (arith, append-ones (replicate k false) (true ∷ t), no-ones k, popcount-cons true t, take-ones (B - k - 1) (replicate (B - 1) false), no-ones (B - 1))

pub front-of_one_bit : (s : Bool) (B k : ℕ) → k < B → prefix_len (beq false) (bits B (shifted_left s B (pos 1) k)) ≡ k
front-of_one_bit s B k h =
    ap (prefix_len (beq false)) (bits-one_bit s B k h) ∙ front-after k (true ∷ take (B - k - 1) (replicate (B - 1) false)) ∙ omega arith

-- ---- the runs of a number that is written out

pub front-of_numeral : (B m : ℕ) → B ≤ 128 → suc m < 2 ^ B → prefix_len (beq false) (bits B (pos (suc m))) ≡ low_zeros 128 (suc m)
front-of_numeral B m h g = front-counted 128 B (pos (suc m)) h (omega arith) g

pub ruleset count_bounds = (front-of_numeral, popcount-of_numeral, popcount-of_and, popcount-of_and_or, popcount-of_xor, popcount-of_shifted_left, popcount-of_shifted_right, front-of_shifted_left, tail-of_shifted_right, popcount-of_one_bit, front-of_one_bit, front_zeros-beside_ones, tail_zeros-beside_ones, front_ones-below_ones, tail_ones-below_ones, front-alike_one, tail-alike_one)
