-- The low bits of a result, which a conversion to a narrower type keeps, are those of the same operation on the
-- low bits; and a rotation or a reversal of a number that is converted to the other sign. Callers name the set
-- `truncations`.
use Rattle.std.specs.List.{slice_rotate_right}
use Rattle.std.specs.Prelude.{Bool, List, reverse, ℕ, ℤ, ◌<◌, ◌≡◌, ◌≤◌}
use Rattle.std.proofs.Common.{ap, sym, ◌∙◌}
use Rattle.std.proofs.lemmas.Bool.Decides.{Decides-int_eq}
use Rattle.arbitrary_base.specs.BitList.{bits, val}
use Rattle.arbitrary_base.proofs.bit_lists.Movement.{rotr}
use Rattle.arbitrary_base.specs.Operation.{bitwise_and, bitwise_not, bitwise_or, bitwise_xor, reversed, rotated_left, rotated_right, shifted_left, wrapped_difference, wrapped_product, wrapped_sum}
use Rattle.arbitrary_base.specs.Residue.{wrap}
use Rattle.arbitrary_base.proofs.bit_lists.TwosComplement.{bits-wrap}
use Rattle.arbitrary_base.proofs.modular.LowBitOperation.{low-and, low-difference, low-not, low-or, low-product, low-shl, low-sum, low-xor, wrap-wide}
use Rattle.arbitrary_base.proofs.modular.Residue.{wrap-in_range}
use Rattle.arbitrary_base.proofs.operations.Definition.{and-is, bits-reversed, bits-rotl, by-bits, difference-is, left-is, not-is, of-bits, or-is, product-is, reversed-is, rotl-is, rotr-is, sum-is, xor-is}
use Rattle.arbitrary_laws.proofs.rotations.RotatedLists.{bits-rotr}

module _ (s t : Bool) (A B : ℕ) (x y : ℤ) (h : 1 ≤ A) (g : A ≤ B) where
  pub and-truncated : wrap s A (bitwise_and t B x y) ≡ bitwise_and s A (wrap s A x) (wrap s A y)
  and-truncated = ap (wrap s A) (and-is t B x y) ∙ low-and s t A B x y h g ∙ sym (and-is s A (wrap s A x) (wrap s A y))

  pub or-truncated : wrap s A (bitwise_or t B x y) ≡ bitwise_or s A (wrap s A x) (wrap s A y)
  or-truncated = ap (wrap s A) (or-is t B x y) ∙ low-or s t A B x y h g ∙ sym (or-is s A (wrap s A x) (wrap s A y))

  pub xor-truncated : wrap s A (bitwise_xor t B x y) ≡ bitwise_xor s A (wrap s A x) (wrap s A y)
  xor-truncated = ap (wrap s A) (xor-is t B x y) ∙ low-xor s t A B x y h g ∙ sym (xor-is s A (wrap s A x) (wrap s A y))

  pub sum-truncated : wrap s A (wrapped_sum t B x y) ≡ wrapped_sum s A (wrap s A x) (wrap s A y)
  sum-truncated = ap (wrap s A) (sum-is t B x y) ∙ low-sum s t A B x y h g ∙ sym (sum-is s A (wrap s A x) (wrap s A y))

  pub difference-truncated : wrap s A (wrapped_difference t B x y) ≡ wrapped_difference s A (wrap s A x) (wrap s A y)
  difference-truncated = ap (wrap s A) (difference-is t B x y) ∙ low-difference s t A B x y h g ∙ sym (difference-is s A (wrap s A x) (wrap s A y))

  pub product-truncated : wrap s A (wrapped_product t B x y) ≡ wrapped_product s A (wrap s A x) (wrap s A y)
  product-truncated = ap (wrap s A) (product-is t B x y) ∙ low-product s t A B x y h g ∙ sym (product-is s A (wrap s A x) (wrap s A y))

pub not-truncated : (s t : Bool) (A B : ℕ) (x : ℤ) → 1 ≤ A → A ≤ B → wrap s A (bitwise_not t B x) ≡ bitwise_not s A (wrap s A x)
not-truncated s t A B x h g = ap (wrap s A) (not-is t B x) ∙ low-not s t A B x h g ∙ sym (not-is s A (wrap s A x))

pub left-truncated : (s t : Bool) (A B k : ℕ) (x : ℤ) → A ≤ B → k < A → wrap s A (shifted_left t B x k) ≡ shifted_left s A (wrap s A x) k
left-truncated s t A B k x g l = ap (wrap s A) (left-is t B x k) ∙ low-shl s t A B k x g l ∙ sym (left-is s A (wrap s A x) k)

-- ---- at the same width, where the sign differs

module _ (s t : Bool) (B k : ℕ) (x : ℤ) (some : 1 ≤ B) where
  converted : (z y : ℤ) (l m : List Bool) → bits B z ≡ l → y ≡ val s m → l ≡ m → wrap s B z ≡ y
  converted z y l m e f g = by-bits s l m _ _ (of-bits s B (wrap s B z) some (wrap-in_range s B z some) ∙ ap (val s) (bits-wrap s B z ∙ e)) f g

  pub left_rotation-converted : wrap s B (rotated_left t B x k) ≡ rotated_left s B (wrap s B x) k
  left_rotation-converted =
      converted _ _ _ _ (bits-rotl t B x k) (rotl-is s B (wrap s B x) k) (ap (λ (l : List Bool). slice_rotate_right l k) (sym (bits-wrap s B x)))

  pub right_rotation-converted : wrap s B (rotated_right t B x k) ≡ rotated_right s B (wrap s B x) k
  right_rotation-converted =
      converted _ _ _ _ (bits-rotr t B x k) (rotr-is s B (wrap s B x) k) (ap (λ (l : List Bool). rotr l k) (sym (bits-wrap s B x)))

  pub reversal-converted : wrap s B (reversed t B x) ≡ reversed s B (wrap s B x)
  reversal-converted = converted _ _ _ _ (bits-reversed t B x) (reversed-is s B (wrap s B x)) (ap reverse (sym (bits-wrap s B x)))

pub ruleset truncations = (Decides-int_eq, wrap-wide, and-truncated, or-truncated, xor-truncated, not-truncated, sum-truncated, difference-truncated, product-truncated, left-truncated, left_rotation-converted, right_rotation-converted, reversal-converted)
