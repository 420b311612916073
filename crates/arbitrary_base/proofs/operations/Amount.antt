-- Shifts and rotations by an amount of at most the width, which is an opaque type, and the other operations as
-- `FixedWidth` states them for generic code. Their only premise is the width. If a law returns an operand, it
-- names it as the number of the operand's bits, because that needs no premise on the range.
use Rattle.std.specs.Bool.{beq}
use Rattle.std.specs.List.{count_by, prefix_len, suffix_len}
use Rattle.std.specs.Prelude.{Bool, List, false, length, negsuc, pos, replicate, reverse, take, true, ℕ, ℤ, ◌++◌, ◌-◌, ◌≡◌, ◌≤◌, ◌⊎◌}
use Rattle.std.proofs.Common.{ap, ap₂, arith, inl, inr, refl, subst, sym, ◌∙◌}
use Rattle.std.proofs.lemmas.Int.{ints}
use Rattle.std.proofs.lemmas.List.{append-nil, drop_all, reverse-reverse, take_all}
use Rattle.arbitrary_base.specs.BitList.{bits, fill, val}
use Rattle.arbitrary_base.proofs.bit_lists.Movement.{rotr}
use Rattle.arbitrary_base.specs.Operation.{bitwise_and, bitwise_not, bitwise_or, bitwise_xor, reversed, rotated_left, rotated_right, shifted_left, shifted_right, wrapped_difference, wrapped_product, wrapped_sum}
use Rattle.arbitrary_base.specs.Range.{InRange}
use Rattle.arbitrary_base.specs.Residue.{Congruent, wrap}
use Rattle.arbitrary_base.proofs.bit_lists.Rotation.{rotl-none, shl-none, shr-none}
use Rattle.arbitrary_base.proofs.bit_lists.TwosComplement.{val-bits}
use Rattle.arbitrary_base.proofs.bit_lists.UnsignedNumber.{length-bits}
use Rattle.arbitrary_base.proofs.modular.Congruence.{Congruent-refl}
use Rattle.arbitrary_base.proofs.modular.Residue.{wrap-congruent, wrap-in_range}
use Rattle.arbitrary_base.proofs.operations.BitsAndSums.{sum-of_disjoint}
use Rattle.arbitrary_base.proofs.operations.Complement.{sum-with_not}
use Rattle.arbitrary_base.proofs.operations.Definition.{bits-left, bits-minus_one, bits-reversed, bits-right, bits-rotl, left-is, minus_one-in_range, not-in_range, of-bits, reversed-is, right-is, rotl-is, rotr-is, zero-is}
use Rattle.arbitrary_base.proofs.operations.RotateAndReverse.{reversed-not_zero, reversed-rotated_left, reversed-zero, rotated_left-and, rotated_left-not, rotated_left-not_zero, rotated_left-or, rotated_left-xor, rotated_left-zero, rotated_right-as_left}
use Rattle.arbitrary_base.proofs.operations.Shift.{right_left-mask_not, shifted_left-and, shifted_left-or, shifted_left-sum, shifted_left-xor, shifted_left-zero, shifted_right-and, shifted_right-or, shifted_right-xor, shifted_right-zero}
use Rattle.arbitrary_base.proofs.operations.WrappedRing.{by-congruence, difference-congruent, difference-in_range, difference-of_sum_left, product-in_range, product-of_sum, sum-congruent, sum-in_range, wrapped_difference-is_sum, wrapped_difference-self, wrapped_product-associates, wrapped_sum-associates}
use Rattle.arbitrary_base.proofs.operations.PopulationAndRuns.{front-of_reversed, front_ones-of_not, front_zeros-of_not, popcount-of_left, popcount-of_not, popcount-of_reversed, popcount-of_zero, tail-of_reversed, tail_ones-of_not, tail_zeros-of_not}
use Rattle.arbitrary_base.proofs.operations.BitByBit.{is_own_bits, own, own_bits}
use native.Mathlib.Bridge.{le_prop}

minus_one-is : (k : ℕ) → 1 ≤ k → negsuc 0 ≡ val true (replicate k true)
minus_one-is k h = of-bits true k (negsuc 0) h (minus_one-in_range k) ∙ ap (val true) (bits-minus_one k)

-- an amount of at most B. The type is shut: the search would compare an amount with each number
pub Amount : ℕ → Type 0
Amount B = (k : ℕ) × (k ≤ B)

-- the amount m, or B where m is past it
pub amount : (B : ℕ) → ℕ → Amount B
unfolding Amount
amount B m = (B - (B - m), omega arith)

pub none : (B : ℕ) → Amount B
unfolding Amount
none B = (0, omega arith)

pub amount-none : (B m : ℕ) → m ≡ 0 → amount B m ≡ none B
unfolding Amount amount none
amount-none B m e =
    let z : B - (B - m) ≡ 0 = omega arith in
    subst (λ (k : ℕ). (q : k ≤ B) → amount B m ≡ (k, q)) z (λ (q : B - (B - m) ≤ B). ap (λ (p : B - (B - m) ≤ B). (B - (B - m), p)) (le_prop _ q)) (none B).1

-- what is left to a whole round
pub rest : (B : ℕ) → Amount B → Amount B
unfolding Amount
rest B t = (B - t.0, omega arith)

-- ---- shifts to the left

pub left : Bool → (B : ℕ) → ℤ → Amount B → ℤ
unfolding Amount
left s B x t = shifted_left s B x t.0

-- past the end nothing is left
shifted_left-all : (s : Bool) (B : ℕ) (x : ℤ) (k : ℕ) → 1 ≤ B → B ≤ k → shifted_left s B x k ≡ pos 0
shifted_left-all s B x k h g =
    let e : length (bits B x) - k ≡ 0 = let l = length-bits B x in omega arith in
    left-is s B x k
    ∙ ap (λ (j : ℕ). val s (replicate k false ++ take j (bits B x))) e
    ∙ ap (val s) (append-nil (replicate k false))
    ∙ sym (zero-is s k (omega arith))

within : (m B : ℕ) → (m ≤ B) ⊎ (B ≤ m)
within m B = grind arith

pub left-of_amount : (s : Bool) (B : ℕ) (x : ℤ) (m : ℕ) → 1 ≤ B → shifted_left s B x m ≡ left s B x (amount B m)
unfolding Amount amount left
left-of_amount s B x m h = elim (within m B) [
  | inl g ↦ ap (shifted_left s B x) (let e : m ≡ B - (B - m) = omega arith in e)
  | inr g ↦ shifted_left-all s B x m h g ∙ sym (shifted_left-all s B x _ h (omega arith))
]

pub left-own : (s : Bool) (B : ℕ) (x : ℤ) (t : Amount B) → is_own_bits s B (left s B x t) ≡ true
unfolding Amount left
left-own s B x t = own_bits s B _ (ap (val s) (bits-left s B x t.0 t.1) ∙ sym (left-is s B x t.0))

-- the value of its own bits, which a number of the type is
pub own_value : Bool → ℕ → ℤ → ℤ
own_value s B x = val s (bits B x)

pub own_value-is : (s : Bool) (B : ℕ) (x y : ℤ) → y ≡ x → is_own_bits s B x ≡ true → own_value s B x ≡ y
unfolding own_value
own_value-is s B x y e h = own s B x h ∙ sym e

pub left-none : (s : Bool) (B : ℕ) (x y : ℤ) → y ≡ own_value s B x → left s B x (none B) ≡ y
unfolding Amount none left own_value
left-none s B x y e = left-is s B x 0 ∙ ap (val s) (shl-none (bits B x)) ∙ sym e

pub left-of_zero : (s : Bool) (B : ℕ) (x : ℤ) (t : Amount B) → 1 ≤ B → x ≡ pos 0 → left s B x t ≡ x
unfolding Amount left
left-of_zero s B x t h e = ap (λ (w : ℤ). shifted_left s B w t.0) e ∙ shifted_left-zero s B t.0 h t.1 ∙ sym e

pub left-of_and : (s : Bool) (B : ℕ) (x y z : ℤ) (t : Amount B) → z ≡ bitwise_and s B x y → left s B z t ≡ bitwise_and s B (left s B x t) (left s B y t)
unfolding Amount left
left-of_and s B x y z t e = ap (λ (w : ℤ). shifted_left s B w t.0) e ∙ shifted_left-and s B x y t.0 t.1

pub left-of_or : (s : Bool) (B : ℕ) (x y z : ℤ) (t : Amount B) → z ≡ bitwise_or s B x y → left s B z t ≡ bitwise_or s B (left s B x t) (left s B y t)
unfolding Amount left
left-of_or s B x y z t e = ap (λ (w : ℤ). shifted_left s B w t.0) e ∙ shifted_left-or s B x y t.0 t.1

pub left-of_xor : (s : Bool) (B : ℕ) (x y z : ℤ) (t : Amount B) → z ≡ bitwise_xor s B x y → left s B z t ≡ bitwise_xor s B (left s B x t) (left s B y t)
unfolding Amount left
left-of_xor s B x y z t e = ap (λ (w : ℤ). shifted_left s B w t.0) e ∙ shifted_left-xor s B x y t.0 t.1

-- ---- shifts to the right

pub right : Bool → (B : ℕ) → ℤ → Amount B → ℤ
unfolding Amount
right s B x t = shifted_right s B x t.0

val-alike : (s b : Bool) (k n : ℕ) → (s ≡ false → b ≡ false) → 1 ≤ k → 1 ≤ n → val s (replicate k b) ≡ val s (replicate n b)
val-alike s false k n z h g = sym (zero-is s k h) ∙ zero-is s n g
val-alike false true k n z h g = absurd (let e : true ≡ false = z refl in cc)
val-alike true true k n z h g = sym (minus_one-is k h) ∙ minus_one-is n g

no_fill : (s : Bool) (l : List Bool) → s ≡ false → fill s l ≡ false
no_fill false l e = refl
no_fill true l e = absurd cc

shifted_right-all : (s : Bool) (B : ℕ) (x : ℤ) (k : ℕ) → B ≤ k → shifted_right s B x k ≡ val s (replicate k (fill s (bits B x)))
shifted_right-all s B x k g =
    right-is s B x k
    ∙ ap (λ (l : List Bool). val s (l ++ replicate k (fill s (bits B x)))) (drop_all k (bits B x) (let l = length-bits B x in omega arith))

pub right-of_amount : (s : Bool) (B : ℕ) (x : ℤ) (m : ℕ) → 1 ≤ B → shifted_right s B x m ≡ right s B x (amount B m)
unfolding Amount amount right
right-of_amount s B x m h = elim (within m B) [
  | inl g ↦ ap (shifted_right s B x) (let e : m ≡ B - (B - m) = omega arith in e)
  | inr g ↦ shifted_right-all s B x m g ∙ val-alike s _ m (B - (B - m)) (no_fill s (bits B x)) (omega arith) (omega arith) ∙ sym (shifted_right-all s B x _ (omega arith))
]

pub right-own : (s : Bool) (B : ℕ) (x : ℤ) (t : Amount B) → is_own_bits s B (right s B x t) ≡ true
unfolding Amount right
right-own s B x t = own_bits s B _ (ap (val s) (bits-right s B x t.0 t.1) ∙ sym (right-is s B x t.0))

pub right-none : (s : Bool) (B : ℕ) (x y : ℤ) → y ≡ own_value s B x → right s B x (none B) ≡ y
unfolding Amount none right own_value
right-none s B x y e = right-is s B x 0 ∙ ap (val s) (shr-none (bits B x) (fill s (bits B x))) ∙ sym e

pub right-of_zero : (s : Bool) (B : ℕ) (x : ℤ) (t : Amount B) → 1 ≤ B → x ≡ pos 0 → right s B x t ≡ x
unfolding Amount right
right-of_zero s B x t h e = ap (λ (w : ℤ). shifted_right s B w t.0) e ∙ shifted_right-zero s B t.0 h t.1 ∙ sym e

pub right-of_and : (s : Bool) (B : ℕ) (x y z : ℤ) (t : Amount B) → z ≡ bitwise_and s B x y → right s B z t ≡ bitwise_and s B (right s B x t) (right s B y t)
unfolding Amount right
right-of_and s B x y z t e = ap (λ (w : ℤ). shifted_right s B w t.0) e ∙ shifted_right-and s B x y t.0 t.1

pub right-of_or : (s : Bool) (B : ℕ) (x y z : ℤ) (t : Amount B) → z ≡ bitwise_or s B x y → right s B z t ≡ bitwise_or s B (right s B x t) (right s B y t)
unfolding Amount right
right-of_or s B x y z t e = ap (λ (w : ℤ). shifted_right s B w t.0) e ∙ shifted_right-or s B x y t.0 t.1

pub right-of_xor : (s : Bool) (B : ℕ) (x y z : ℤ) (t : Amount B) → z ≡ bitwise_xor s B x y → right s B z t ≡ bitwise_xor s B (right s B x t) (right s B y t)
unfolding Amount right
right-of_xor s B x y z t e = ap (λ (w : ℤ). shifted_right s B w t.0) e ∙ shifted_right-xor s B x y t.0 t.1

pub left-of_right : (s : Bool) (B : ℕ) (x z : ℤ) (t : Amount B) → z ≡ right s B x t → left s B z t ≡ bitwise_and s B x (left s B (bitwise_not s B (pos 0)) t)
unfolding Amount left right
left-of_right s B x z t e = ap (λ (w : ℤ). shifted_left s B w t.0) e ∙ right_left-mask_not s B x t.0 t.1

-- ---- rotations

pub turned : Bool → (B : ℕ) → ℤ → Amount B → ℤ
unfolding Amount
turned s B x t = rotated_left s B x t.0

pub left_turn-of_amount : (s : Bool) (B : ℕ) (x : ℤ) (m : ℕ) → rotated_left s B x m ≡ turned s B x (amount B m)
unfolding Amount amount turned
left_turn-of_amount s B x m =
    let e : length (bits B x) - m ≡ length (bits B x) - (B - (B - m)) = let l = length-bits B x in omega arith in
    rotl-is s B x m ∙ ap (λ (j : ℕ). val s (rotr (bits B x) j)) e ∙ sym (rotl-is s B x _)

pub right_turn-of_amount : (s : Bool) (B : ℕ) (x : ℤ) (m : ℕ) → rotated_right s B x m ≡ turned s B x (rest B (amount B m))
unfolding Amount amount rest turned
right_turn-of_amount s B x m = elim (within m B) [
  | inl g ↦ rotated_right-as_left s B x m g ∙ ap (rotated_left s B x) (let e : B - m ≡ B - (B - (B - m)) = omega arith in e)
  | inr g ↦ rotr-is s B x m
      ∙ ap (val s) (ap₂ (λ (p q : List Bool). p ++ q) (drop_all m (bits B x) (let l = length-bits B x in omega arith)) (take_all m (bits B x) (let l = length-bits B x in omega arith)))
      ∙ ap (val s) (sym (rotl-none (bits B x)))
      ∙ sym (rotl-is s B x 0)
      ∙ ap (rotated_left s B x) (let e : 0 ≡ B - (B - (B - m)) = omega arith in e)
]

pub turned-own : (s : Bool) (B : ℕ) (x : ℤ) (t : Amount B) → is_own_bits s B (turned s B x t) ≡ true
unfolding Amount turned
turned-own s B x t = own_bits s B _ (ap (val s) (bits-rotl s B x t.0) ∙ sym (rotl-is s B x t.0))

pub turned-none : (s : Bool) (B : ℕ) (x y : ℤ) → y ≡ own_value s B x → turned s B x (none B) ≡ y
unfolding Amount none turned own_value
turned-none s B x y e = rotl-is s B x 0 ∙ ap (val s) (rotl-none (bits B x)) ∙ sym e

pub turned-of_zero : (s : Bool) (B : ℕ) (x : ℤ) (t : Amount B) → 1 ≤ B → x ≡ pos 0 → turned s B x t ≡ x
unfolding Amount turned
turned-of_zero s B x t h e = ap (λ (w : ℤ). rotated_left s B w t.0) e ∙ rotated_left-zero s B t.0 h ∙ sym e

pub turned-of_ones : (s : Bool) (B : ℕ) (x : ℤ) (t : Amount B) → 1 ≤ B → x ≡ bitwise_not s B (pos 0) → turned s B x t ≡ x
unfolding Amount turned
turned-of_ones s B x t h e = ap (λ (w : ℤ). rotated_left s B w t.0) e ∙ rotated_left-not_zero s B t.0 h ∙ sym e

pub turned-of_and : (s : Bool) (B : ℕ) (x y z : ℤ) (t : Amount B) → z ≡ bitwise_and s B x y → turned s B z t ≡ bitwise_and s B (turned s B x t) (turned s B y t)
unfolding Amount turned
turned-of_and s B x y z t e = ap (λ (w : ℤ). rotated_left s B w t.0) e ∙ rotated_left-and s B x y t.0

pub turned-of_or : (s : Bool) (B : ℕ) (x y z : ℤ) (t : Amount B) → z ≡ bitwise_or s B x y → turned s B z t ≡ bitwise_or s B (turned s B x t) (turned s B y t)
unfolding Amount turned
turned-of_or s B x y z t e = ap (λ (w : ℤ). rotated_left s B w t.0) e ∙ rotated_left-or s B x y t.0

pub turned-of_xor : (s : Bool) (B : ℕ) (x y z : ℤ) (t : Amount B) → z ≡ bitwise_xor s B x y → turned s B z t ≡ bitwise_xor s B (turned s B x t) (turned s B y t)
unfolding Amount turned
turned-of_xor s B x y z t e = ap (λ (w : ℤ). rotated_left s B w t.0) e ∙ rotated_left-xor s B x y t.0

pub turned-of_not : (s : Bool) (B : ℕ) (x z : ℤ) (t : Amount B) → z ≡ bitwise_not s B x → turned s B z t ≡ bitwise_not s B (turned s B x t)
unfolding Amount turned
turned-of_not s B x z t e = ap (λ (w : ℤ). rotated_left s B w t.0) e ∙ rotated_left-not s B x t.0

pub reversed-own : (s : Bool) (B : ℕ) (x : ℤ) → is_own_bits s B (reversed s B x) ≡ true
reversed-own s B x = own_bits s B _ (ap (val s) (bits-reversed s B x) ∙ sym (reversed-is s B x))

pub reversed-back : (s : Bool) (B : ℕ) (x y z : ℤ) → y ≡ reversed s B x → z ≡ own_value s B x → reversed s B y ≡ z
unfolding own_value
reversed-back s B x y z e f =
    ap (reversed s B) e ∙ reversed-is s B _ ∙ ap (val s) (ap reverse (bits-reversed s B x) ∙ reverse-reverse (bits B x)) ∙ sym f

pub reversed-of_zero : (s : Bool) (B : ℕ) (x : ℤ) → 1 ≤ B → x ≡ pos 0 → reversed s B x ≡ x
reversed-of_zero s B x h e = ap (reversed s B) e ∙ reversed-zero s B h ∙ sym e

pub reversed-of_ones : (s : Bool) (B : ℕ) (x : ℤ) → 1 ≤ B → x ≡ bitwise_not s B (pos 0) → reversed s B x ≡ x
reversed-of_ones s B x h e = ap (reversed s B) e ∙ reversed-not_zero s B h ∙ sym e

pub reversed-of_turned : (s : Bool) (B : ℕ) (x z : ℤ) (t : Amount B) → z ≡ turned s B x t → reversed s B z ≡ turned s B (reversed s B x) (rest B t)
unfolding Amount rest turned
reversed-of_turned s B x z t e =
    ap (reversed s B) e ∙ reversed-rotated_left s B x t.0 t.1 ∙ rotated_right-as_left s B _ t.0 t.1

-- ---- counts

pub count_of_ones : ℕ → ℤ → ℕ
count_of_ones B x = count_by (λ b. b) (bits B x)

pub ones-is : (B : ℕ) (x y : ℤ) → y ≡ x → count_by (λ b. b) (bits B x) ≡ count_of_ones B y
unfolding count_of_ones
ones-is B x y e = ap (λ (z : ℤ). count_by (λ b. b) (bits B z)) (sym e)

pub ones-of_zero : (B : ℕ) → count_of_ones B (pos 0) ≡ 0
unfolding count_of_ones
ones-of_zero B = popcount-of_zero B

pub ones-of_not : (s : Bool) (B : ℕ) (x : ℤ) (n : ℕ) → n ≡ count_of_ones B x → count_of_ones B (bitwise_not s B x) ≡ B - n
unfolding count_of_ones
ones-of_not s B x n e = popcount-of_not s B x ∙ ap (λ (k : ℕ). B - k) (sym e)

pub ones-of_reversed : (s : Bool) (B : ℕ) (x : ℤ) (n : ℕ) → n ≡ count_of_ones B x → count_of_ones B (reversed s B x) ≡ n
unfolding count_of_ones
ones-of_reversed s B x n e = popcount-of_reversed s B x ∙ sym e

pub ones-of_turned : (s : Bool) (B : ℕ) (x : ℤ) (t : Amount B) (n : ℕ) → n ≡ count_of_ones B x → count_of_ones B (turned s B x t) ≡ n
unfolding Amount turned count_of_ones
ones-of_turned s B x t n e = popcount-of_left s B x t.0 ∙ sym e

-- how many bits at the high end are b
pub leading_run : ℕ → Bool → ℤ → ℕ
leading_run B b x = suffix_len (beq b) (bits B x)

-- how many bits at the low end are b
pub trailing_run : ℕ → Bool → ℤ → ℕ
trailing_run B b x = prefix_len (beq b) (bits B x)

pub leading_run-is : (B : ℕ) (x y : ℤ) (b : Bool) → y ≡ x → suffix_len (beq b) (bits B x) ≡ leading_run B b y
unfolding leading_run
leading_run-is B x y b e = ap (λ (z : ℤ). suffix_len (beq b) (bits B z)) (sym e)

pub trailing_run-is : (B : ℕ) (x y : ℤ) (b : Bool) → y ≡ x → prefix_len (beq b) (bits B x) ≡ trailing_run B b y
unfolding trailing_run
trailing_run-is B x y b e = ap (λ (z : ℤ). prefix_len (beq b) (bits B z)) (sym e)

pub leading_ones-of_not : (s : Bool) (B : ℕ) (x : ℤ) (n : ℕ) → n ≡ leading_run B false x → leading_run B true (bitwise_not s B x) ≡ n
unfolding leading_run
leading_ones-of_not s B x n e = tail_ones-of_not s B x ∙ sym e

pub leading_zeros-of_not : (s : Bool) (B : ℕ) (x : ℤ) (n : ℕ) → n ≡ leading_run B true x → leading_run B false (bitwise_not s B x) ≡ n
unfolding leading_run
leading_zeros-of_not s B x n e = tail_zeros-of_not s B x ∙ sym e

pub trailing_ones-of_not : (s : Bool) (B : ℕ) (x : ℤ) (n : ℕ) → n ≡ trailing_run B false x → trailing_run B true (bitwise_not s B x) ≡ n
unfolding trailing_run
trailing_ones-of_not s B x n e = front_ones-of_not s B x ∙ sym e

pub trailing_zeros-of_not : (s : Bool) (B : ℕ) (x : ℤ) (n : ℕ) → n ≡ trailing_run B true x → trailing_run B false (bitwise_not s B x) ≡ n
unfolding trailing_run
trailing_zeros-of_not s B x n e = front_zeros-of_not s B x ∙ sym e

pub leading_run-of_reversed : (s : Bool) (B : ℕ) (x : ℤ) (b : Bool) (n : ℕ) → n ≡ trailing_run B b x → leading_run B b (reversed s B x) ≡ n
unfolding leading_run trailing_run
leading_run-of_reversed s B x b n e = tail-of_reversed s b B x ∙ sym e

pub trailing_run-of_reversed : (s : Bool) (B : ℕ) (x : ℤ) (b : Bool) (n : ℕ) → n ≡ leading_run B b x → trailing_run B b (reversed s B x) ≡ n
unfolding leading_run trailing_run
trailing_run-of_reversed s B x b n e = front-of_reversed s b B x ∙ sym e

-- ---- sums, differences and products that wrap

pub own-in_range : (s : Bool) (B : ℕ) (x : ℤ) → 1 ≤ B → InRange s B x → is_own_bits s B x ≡ true
own-in_range s B x h f = own_bits s B x (sym (of-bits s B x h f))

own_value-wraps : (s : Bool) (B : ℕ) (x y : ℤ) → 1 ≤ B → y ≡ own_value s B x → y ≡ wrap s B x
unfolding own_value
own_value-wraps s B x y h e = e ∙ val-bits s B x h

own_value-in_range : (s : Bool) (B : ℕ) (x y : ℤ) → 1 ≤ B → y ≡ own_value s B x → InRange s B y
own_value-in_range s B x y h e = subst (InRange s B) (sym (own_value-wraps s B x y h e)) (wrap-in_range s B x h)

own_value-congruent : (s : Bool) (B : ℕ) (x y : ℤ) → 1 ≤ B → y ≡ own_value s B x → Congruent B y x
own_value-congruent s B x y h e = subst (λ (z : ℤ). Congruent B z x) (sym (own_value-wraps s B x y h e)) (wrap-congruent s B x)

pub sum-own : (s : Bool) (B : ℕ) (x y : ℤ) → 1 ≤ B → is_own_bits s B (wrapped_sum s B x y) ≡ true
sum-own s B x y h = own-in_range s B _ h (sum-in_range s B x y h)

pub sum-again : (s : Bool) (B : ℕ) (x y z w : ℤ) → 1 ≤ B → w ≡ wrapped_sum s B x y → wrapped_sum s B w z ≡ wrapped_sum s B x (wrapped_sum s B y z)
sum-again s B x y z w h e = ap (λ (v : ℤ). wrapped_sum s B v z) e ∙ wrapped_sum-associates s B x y z h

pub sum-with_zero : (s : Bool) (B : ℕ) (x y : ℤ) → 1 ≤ B → y ≡ own_value s B x → wrapped_sum s B x (pos 0) ≡ y
sum-with_zero s B x y h e =
    by-congruence s B _ _ _ _ h (sum-in_range s B _ _ h) (own_value-in_range s B x y h e)
    (sum-congruent s B _ _ _ _ (Congruent-refl B x) (Congruent-refl B (pos 0))) (own_value-congruent s B x y h e) (omega (arith, ints))

pub difference-own : (s : Bool) (B : ℕ) (x y : ℤ) → 1 ≤ B → is_own_bits s B (wrapped_difference s B x y) ≡ true
difference-own s B x y h = own-in_range s B _ h (difference-in_range s B x y h)

pub difference-after_sum : (s : Bool) (B : ℕ) (x y z w : ℤ) → 1 ≤ B → z ≡ wrapped_sum s B x y → w ≡ own_value s B x → wrapped_difference s B z y ≡ w
difference-after_sum s B x y z w h e f =
    ap (λ (v : ℤ). wrapped_difference s B v y) e
    ∙ by-congruence s B _ _ _ _ h (difference-in_range s B _ _ h) (own_value-in_range s B x w h f)
    (difference-congruent s B _ _ _ _ (sum-congruent s B _ _ _ _ (Congruent-refl B x) (Congruent-refl B y)) (Congruent-refl B y)) (own_value-congruent s B x w h f) (omega (arith, ints))

pub sum-to_difference_of : (s : Bool) (B : ℕ) (x y z w : ℤ) → 1 ≤ B → z ≡ wrapped_difference s B y x → w ≡ own_value s B y → wrapped_sum s B x z ≡ w
sum-to_difference_of s B x y z w h e f =
    ap (wrapped_sum s B x) e
    ∙ by-congruence s B _ _ _ _ h (sum-in_range s B _ _ h) (own_value-in_range s B y w h f)
    (sum-congruent s B _ _ _ _ (Congruent-refl B x) (difference-congruent s B _ _ _ _ (Congruent-refl B y) (Congruent-refl B x))) (own_value-congruent s B y w h f) (omega (arith, ints))

pub sum-after_difference : (s : Bool) (B : ℕ) (x y z w : ℤ) → 1 ≤ B → z ≡ wrapped_difference s B x y → w ≡ own_value s B x → wrapped_sum s B z y ≡ w
sum-after_difference s B x y z w h e f =
    ap (λ (v : ℤ). wrapped_sum s B v y) e
    ∙ by-congruence s B _ _ _ _ h (sum-in_range s B _ _ h) (own_value-in_range s B x w h f)
    (sum-congruent s B _ _ _ _ (difference-congruent s B _ _ _ _ (Congruent-refl B x) (Congruent-refl B y)) (Congruent-refl B y)) (own_value-congruent s B x w h f) (omega (arith, ints))

pub difference-again : (s : Bool) (B : ℕ) (x y z w : ℤ) → 1 ≤ B → z ≡ wrapped_difference s B x y → w ≡ own_value s B y → wrapped_difference s B x z ≡ w
difference-again s B x y z w h e f =
    ap (wrapped_difference s B x) e
    ∙ by-congruence s B _ _ _ _ h (difference-in_range s B _ _ h) (own_value-in_range s B y w h f)
    (difference-congruent s B _ _ _ _ (Congruent-refl B x) (difference-congruent s B _ _ _ _ (Congruent-refl B x) (Congruent-refl B y))) (own_value-congruent s B y w h f) (omega (arith, ints))

pub difference-alike : (s : Bool) (B : ℕ) (x y : ℤ) → 1 ≤ B → y ≡ x → wrapped_difference s B x y ≡ pos 0
difference-alike s B x y h e = ap (wrapped_difference s B x) e ∙ wrapped_difference-self s B x h

pub difference-with_zero : (s : Bool) (B : ℕ) (x y : ℤ) → 1 ≤ B → y ≡ own_value s B x → wrapped_difference s B x (pos 0) ≡ y
difference-with_zero s B x y h e =
    by-congruence s B _ _ _ _ h (difference-in_range s B _ _ h) (own_value-in_range s B x y h e)
    (difference-congruent s B _ _ _ _ (Congruent-refl B x) (Congruent-refl B (pos 0))) (own_value-congruent s B x y h e) (omega (arith, ints))

pub sum-with_negated : (s : Bool) (B : ℕ) (x y z : ℤ) → 1 ≤ B → z ≡ wrapped_difference s B (pos 0) y → wrapped_sum s B x z ≡ wrapped_difference s B x y
sum-with_negated s B x y z h e = ap (wrapped_sum s B x) e ∙ sym (wrapped_difference-is_sum s B x y h)

pub product-own : (s : Bool) (B : ℕ) (x y : ℤ) → 1 ≤ B → is_own_bits s B (wrapped_product s B x y) ≡ true
product-own s B x y h = own-in_range s B _ h (product-in_range s B x y h)

pub product-again : (s : Bool) (B : ℕ) (x y z w : ℤ) → 1 ≤ B → w ≡ wrapped_product s B x y → wrapped_product s B w z ≡ wrapped_product s B x (wrapped_product s B y z)
product-again s B x y z w h e = ap (λ (v : ℤ). wrapped_product s B v z) e ∙ wrapped_product-associates s B x y z h

pub product-with_sum : (s : Bool) (B : ℕ) (x y z w : ℤ) → 1 ≤ B → w ≡ wrapped_sum s B y z → wrapped_product s B x w ≡ wrapped_sum s B (wrapped_product s B x y) (wrapped_product s B x z)
product-with_sum s B x y z w h e = ap (wrapped_product s B x) e ∙ product-of_sum s B x y z h

pub left-of_sum : (s : Bool) (B : ℕ) (x y z : ℤ) (t : Amount B) → 1 ≤ B → z ≡ wrapped_sum s B x y → left s B z t ≡ wrapped_sum s B (left s B x t) (left s B y t)
unfolding Amount left
left-of_sum s B x y z t h e = ap (λ (w : ℤ). shifted_left s B w t.0) e ∙ shifted_left-sum s B x y t.0 h t.1

pub difference-of_ones : (s : Bool) (B : ℕ) (x y : ℤ) → 1 ≤ B → y ≡ bitwise_not s B (pos 0) → wrapped_difference s B y x ≡ bitwise_not s B x
difference-of_ones s B x y h e =
    ap (λ (v : ℤ). wrapped_difference s B v x) (e ∙ sym (sum-with_not s B x h))
    ∙ difference-of_sum_left s B x (bitwise_not s B x) h (not-in_range s B x h)

pub sum-where_disjoint : (s : Bool) (B : ℕ) (x y z : ℤ) → 1 ≤ B → bitwise_and s B x y ≡ pos 0 → z ≡ wrapped_sum s B x y → z ≡ bitwise_or s B x y
sum-where_disjoint s B x y z h e f = f ∙ sum-of_disjoint s B x y h e
