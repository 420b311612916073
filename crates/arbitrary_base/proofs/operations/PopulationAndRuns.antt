-- The laws of counts: the number of ones, and the lengths of the runs at both ends. EndCounts.antt of
-- `arbitrary_calls` has the counts of 0, of -1 and of the greatest number.
use Rattle.std.specs.Bool.{beq}
use Rattle.std.specs.List.{count_by, prefix_len, suffix_len}
use Rattle.std.specs.Prelude.{Bool, List, [], drop, false, length, map, not, pos, replicate, reverse, suc, take, true, zero, ℕ, ℤ, ◌&&◌, ◌++◌, ◌+◌, ◌-◌, ◌||◌, ◌∷◌, ◌≡◌, ◌≤◌}
use Rattle.std.proofs.Common.{ap, arith, refl, sym, take-append-drop, ◌∙◌}
use Rattle.std.proofs.lemmas.List.{reverse-reverse}
use Rattle.std.proofs.lemmas.List.Sums.{sum_by-append}
use Rattle.arbitrary_base.specs.BitList.{bits, bits_and, bits_or}
use Rattle.arbitrary_base.specs.Operation.{bitwise_and, bitwise_not, bitwise_or, reversed, rotated_left}
use Rattle.arbitrary_base.proofs.bit_lists.Count.{front-not, popcount-cons, popcount-not, tail-not}
use Rattle.arbitrary_base.proofs.bit_lists.Movement.{reverse-cons, rotr}
use Rattle.arbitrary_base.proofs.bit_lists.Pointwise.{and-comm, not-not}
use Rattle.arbitrary_base.proofs.bit_lists.UnsignedNumber.{digit, length-bits, same_length}
use Rattle.arbitrary_base.proofs.operations.Definition.{bits-and, bits-not, bits-or, bits-reversed, bits-rotl, bits-zero}

-- ---- of lists

popcount-append : (l m : List Bool) → count_by (λ b. b) (l ++ m) ≡ count_by (λ b. b) l + count_by (λ b. b) m
popcount-append l m = sum_by-append digit l m

pub popcount-alike : (n : ℕ) → count_by (λ b. b) (replicate n true) ≡ n
popcount-alike zero = refl
popcount-alike (suc n) = popcount-cons true (replicate n true) ∙ (let e = popcount-alike n in omega arith)

popcount-zeros : (n : ℕ) → count_by (λ b. b) (replicate n false) ≡ 0
popcount-zeros zero = refl
popcount-zeros (suc n) = popcount-cons false (replicate n false) ∙ (let e = popcount-zeros n in omega arith)

popcount-reverse : (l : List Bool) → count_by (λ b. b) (reverse l) ≡ count_by (λ b. b) l
popcount-reverse [] = refl
popcount-reverse (b ∷ l) =
    let e = popcount-cons b l in
    let f = popcount-cons b [] in
    ap (count_by (λ b. b)) (reverse-cons b l) ∙ popcount-append (reverse l) (b ∷ []) ∙ (let g = popcount-reverse l in omega arith)

pub popcount-rotr : (l : List Bool) (k : ℕ) → count_by (λ b. b) (rotr l k) ≡ count_by (λ b. b) l
popcount-rotr l k =
    let e = popcount-append (take k l) (drop k l) in
    let f = ap (count_by (λ b. b)) (take-append-drop k l) in
    popcount-append (drop k l) (take k l) ∙ omega arith

pub front-alike : (b : Bool) (n : ℕ) → prefix_len (beq b) (replicate n b) ≡ n
front-alike true zero = refl
front-alike true (suc n) = let e = front-alike true n in omega arith
front-alike false zero = refl
front-alike false (suc n) = let e = front-alike false n in omega arith

front-false_of_not : (l : List Bool) → prefix_len (beq false) l ≡ prefix_len (beq true) (map not l)
front-false_of_not l = ap (prefix_len (beq false)) (sym (not-not l)) ∙ sym (front-not (map not l))

tail-false_of_not : (l : List Bool) → suffix_len (beq false) l ≡ suffix_len (beq true) (map not l)
tail-false_of_not l = ap (suffix_len (beq false)) (sym (not-not l)) ∙ sym (tail-not (map not l))

popcount-and_or : (l m : List Bool) → length l ≡ length m → count_by (λ b. b) (bits_and l m) + count_by (λ b. b) (bits_or l m) ≡ count_by (λ b. b) l + count_by (λ b. b) m
popcount-and_or [] [] e = refl
popcount-and_or [] (b ∷ m) e = absurd (omega arith)
popcount-and_or (a ∷ l) [] e = absurd (omega arith)
popcount-and_or (a ∷ l) (b ∷ m) e =
    omega (arith, item a b, popcount-cons (a && b) (bits_and l m), popcount-cons (a || b) (bits_or l m), popcount-cons a l, popcount-cons b m, popcount-and_or l m (omega arith))
  where
    item : (a b : Bool) → digit (a && b) + digit (a || b) ≡ digit a + digit b
    item true b = omega arith
    item false b = refl

popcount-and : (l m : List Bool) → count_by (λ b. b) (bits_and l m) ≤ count_by (λ b. b) l
popcount-and [] m = omega arith
popcount-and (a ∷ l) [] = omega arith
popcount-and (a ∷ l) (b ∷ m) = omega (arith, item a b, popcount-cons (a && b) (bits_and l m), popcount-cons a l, popcount-and l m)
  where
    item : (a b : Bool) → digit (a && b) ≤ digit a
    item true true = omega arith
    item true false = omega arith
    item false b = omega arith

-- ---- how many are one

pub popcount-of_zero : (B : ℕ) → count_by (λ b. b) (bits B (pos 0)) ≡ 0
popcount-of_zero B = ap (count_by (λ b. b)) (bits-zero B) ∙ popcount-zeros B

pub popcount-of_not : (s : Bool) (B : ℕ) (x : ℤ) → count_by (λ b. b) (bits B (bitwise_not s B x)) ≡ B - count_by (λ b. b) (bits B x)
popcount-of_not s B x =
    let e = popcount-not (bits B x) in
    let n = length-bits B x in
    ap (count_by (λ b. b)) (bits-not s B x) ∙ omega arith

pub popcount-of_reversed : (s : Bool) (B : ℕ) (x : ℤ) → count_by (λ b. b) (bits B (reversed s B x)) ≡ count_by (λ b. b) (bits B x)
popcount-of_reversed s B x = ap (count_by (λ b. b)) (bits-reversed s B x) ∙ popcount-reverse (bits B x)

pub popcount-of_left : (s : Bool) (B : ℕ) (x : ℤ) (k : ℕ) → count_by (λ b. b) (bits B (rotated_left s B x k)) ≡ count_by (λ b. b) (bits B x)
popcount-of_left s B x k = ap (count_by (λ b. b)) (bits-rotl s B x k) ∙ popcount-rotr (bits B x) (length (bits B x) - k)

pub popcount-of_and_or : (s : Bool) (B : ℕ) (x y : ℤ)
    → count_by (λ b. b) (bits B (bitwise_and s B x y)) + count_by (λ b. b) (bits B (bitwise_or s B x y)) ≡ count_by (λ b. b) (bits B x) + count_by (λ b. b) (bits B y)
popcount-of_and_or s B x y =
    let e = ap (count_by (λ b. b)) (bits-and s B x y) in
    let f = ap (count_by (λ b. b)) (bits-or s B x y) in
    omega (arith, popcount-and_or (bits B x) (bits B y) (same_length B x y))

pub popcount-of_and : (s : Bool) (B : ℕ) (x y : ℤ)
    → (count_by (λ b. b) (bits B (bitwise_and s B x y)) ≤ count_by (λ b. b) (bits B x)) × (count_by (λ b. b) (bits B (bitwise_and s B x y)) ≤ count_by (λ b. b) (bits B y))
popcount-of_and s B x y =
    let e = ap (count_by (λ b. b)) (bits-and s B x y) in
    let f = ap (count_by (λ b. b)) (and-comm (bits B x) (bits B y)) in
    (omega (arith, popcount-and (bits B x) (bits B y)), omega (arith, popcount-and (bits B y) (bits B x)))

-- ---- how many equal bits are at an end

pub front_ones-of_not : (s : Bool) (B : ℕ) (x : ℤ) → prefix_len (beq true) (bits B (bitwise_not s B x)) ≡ prefix_len (beq false) (bits B x)
front_ones-of_not s B x = ap (prefix_len (beq true)) (bits-not s B x) ∙ sym (front-false_of_not (bits B x))

pub front_zeros-of_not : (s : Bool) (B : ℕ) (x : ℤ) → prefix_len (beq false) (bits B (bitwise_not s B x)) ≡ prefix_len (beq true) (bits B x)
front_zeros-of_not s B x = ap (prefix_len (beq false)) (bits-not s B x) ∙ sym (front-not (bits B x))

pub tail_ones-of_not : (s : Bool) (B : ℕ) (x : ℤ) → suffix_len (beq true) (bits B (bitwise_not s B x)) ≡ suffix_len (beq false) (bits B x)
tail_ones-of_not s B x = ap (suffix_len (beq true)) (bits-not s B x) ∙ sym (tail-false_of_not (bits B x))

pub tail_zeros-of_not : (s : Bool) (B : ℕ) (x : ℤ) → suffix_len (beq false) (bits B (bitwise_not s B x)) ≡ suffix_len (beq true) (bits B x)
tail_zeros-of_not s B x = ap (suffix_len (beq false)) (bits-not s B x) ∙ sym (tail-not (bits B x))

pub tail-of_reversed : (s b : Bool) (B : ℕ) (x : ℤ) → suffix_len (beq b) (bits B (reversed s B x)) ≡ prefix_len (beq b) (bits B x)
tail-of_reversed s b B x = ap (suffix_len (beq b)) (bits-reversed s B x) ∙ ap (prefix_len (beq b)) (reverse-reverse (bits B x))

pub front-of_reversed : (s b : Bool) (B : ℕ) (x : ℤ) → prefix_len (beq b) (bits B (reversed s B x)) ≡ suffix_len (beq b) (bits B x)
front-of_reversed s b B x = ap (prefix_len (beq b)) (bits-reversed s B x)
