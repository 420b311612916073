-- Results of an operation that can be undone are equal if their operands are equal.
use Rattle.std.specs.Ordering.{int_eq}
use Rattle.std.specs.Prelude.{Bool, true, ℕ, ℤ, ◌≡◌, ◌≤◌}
use Rattle.std.proofs.Common.{ap, sym, ◌∙◌}
use Rattle.std.proofs.lemmas.Bool.Decides.{Decides-int_eq, same_from_decides}
use Rattle.arbitrary_base.specs.Operation.{bitwise_not, bitwise_xor, reversed, rotated_left, rotated_right, wrapped_difference, wrapped_sum}
use Rattle.arbitrary_base.specs.Range.{InRange}
use Rattle.arbitrary_laws.proofs.bits.Identities.{bitwise_not-twice, bitwise_xor-undoes}
use Rattle.arbitrary_laws.proofs.rotations.RotationsAndReversals.{left-undoes_right, reversed-twice, right-undoes_left}
use Rattle.arbitrary_laws.proofs.sums.Ring.{difference-of_sum, difference-to_difference, sum-of_difference}

by-inverse : (f g : ℤ → ℤ) (x y : ℤ) → g (f x) ≡ x → g (f y) ≡ y → int_eq (f x) (f y) ≡ int_eq x y
by-inverse f g x y d e =
    let back : int_eq (f x) (f y) ≡ true → x ≡ y = λ t. sym d ∙ ap g ((Decides-int_eq (f x) (f y)).0 t) ∙ e in
    same_from_decides _ _ (back, λ t. (Decides-int_eq (f x) (f y)).1 (ap f t)) (Decides-int_eq x y)

pub sums-equal : (s : Bool) (B : ℕ) (x y z : ℤ) → 1 ≤ B → InRange s B x → InRange s B y
    → int_eq (wrapped_sum s B x z) (wrapped_sum s B y z) ≡ int_eq x y
sums-equal s B x y z h f g =
    by-inverse (λ n. wrapped_sum s B n z) (λ n. wrapped_difference s B n z) x y (difference-of_sum s B x z h f) (difference-of_sum s B y z h g)

pub differences-equal : (s : Bool) (B : ℕ) (x y z : ℤ) → 1 ≤ B → InRange s B x → InRange s B y
    → int_eq (wrapped_difference s B x z) (wrapped_difference s B y z) ≡ int_eq x y
differences-equal s B x y z h f g =
    by-inverse (λ n. wrapped_difference s B n z) (λ n. wrapped_sum s B n z) x y (sum-of_difference s B x z h f) (sum-of_difference s B y z h g)

pub differences_from-equal : (s : Bool) (B : ℕ) (x y z : ℤ) → 1 ≤ B → InRange s B x → InRange s B y
    → int_eq (wrapped_difference s B z x) (wrapped_difference s B z y) ≡ int_eq x y
differences_from-equal s B x y z h f g =
    by-inverse (wrapped_difference s B z) (wrapped_difference s B z) x y (difference-to_difference s B z x h f) (difference-to_difference s B z y h g)

pub xors-equal : (s : Bool) (B : ℕ) (x y z : ℤ) → 1 ≤ B → InRange s B x → InRange s B y
    → int_eq (bitwise_xor s B x z) (bitwise_xor s B y z) ≡ int_eq x y
xors-equal s B x y z h f g =
    by-inverse (λ n. bitwise_xor s B n z) (λ n. bitwise_xor s B n z) x y (bitwise_xor-undoes s B x z h f) (bitwise_xor-undoes s B y z h g)

pub nots-equal : (s : Bool) (B : ℕ) (x y : ℤ) → 1 ≤ B → InRange s B x → InRange s B y → int_eq (bitwise_not s B x) (bitwise_not s B y) ≡ int_eq x y
nots-equal s B x y h f g = by-inverse (bitwise_not s B) (bitwise_not s B) x y (bitwise_not-twice s B x h f) (bitwise_not-twice s B y h g)

pub reversals-equal : (s : Bool) (B : ℕ) (x y : ℤ) → 1 ≤ B → InRange s B x → InRange s B y → int_eq (reversed s B x) (reversed s B y) ≡ int_eq x y
reversals-equal s B x y h f g = by-inverse (reversed s B) (reversed s B) x y (reversed-twice s B x h f) (reversed-twice s B y h g)

pub left_rotations-equal : (s : Bool) (B : ℕ) (x y : ℤ) (k : ℕ) → 1 ≤ B → k ≤ B → InRange s B x → InRange s B y
    → int_eq (rotated_left s B x k) (rotated_left s B y k) ≡ int_eq x y
left_rotations-equal s B x y k h i f g =
    by-inverse (λ n. rotated_left s B n k) (λ n. rotated_right s B n k) x y (right-undoes_left s B x k h i f) (right-undoes_left s B y k h i g)

pub right_rotations-equal : (s : Bool) (B : ℕ) (x y : ℤ) (k : ℕ) → 1 ≤ B → k ≤ B → InRange s B x → InRange s B y
    → int_eq (rotated_right s B x k) (rotated_right s B y k) ≡ int_eq x y
right_rotations-equal s B x y k h i f g =
    by-inverse (λ n. rotated_right s B n k) (λ n. rotated_left s B n k) x y (left-undoes_right s B x k h i f) (left-undoes_right s B y k h i g)
