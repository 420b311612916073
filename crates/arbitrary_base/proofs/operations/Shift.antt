-- The laws of shifts on the numbers of a type.
use Rattle.std.specs.Bool.{beq}
use Rattle.std.specs.Int.{int_shr}
use Rattle.std.specs.Prelude.{Bool, List, false, get_or, length, negsuc, not, pos, replicate, take, true, ℕ, ℤ, ◌&&◌, ◌*ℤ◌, ◌*◌, ◌++◌, ◌+◌, ◌-ℤ◌, ◌-◌, ◌/◌, ◌^◌, ◌||◌, ◌≡◌, ◌≤◌}
use Rattle.std.proofs.Common.{ap, ap₂, arith, refl, sym, ◌∙◌}
use Rattle.std.proofs.Math.Nat.{zero-div}
use Rattle.std.proofs.lemmas.Int.{ints}
use Rattle.std.proofs.lemmas.List.{length-replicate, replicate-append-replicate, take-replicate}
use Rattle.arbitrary_base.specs.BitList.{bits, bits_and, bits_or, bits_xor, fill, shl, shr}
use Rattle.arbitrary_base.specs.Operation.{bitwise_and, bitwise_not, bitwise_or, bitwise_xor, shifted_left, shifted_right, wrapped_difference, wrapped_product, wrapped_sum}
use Rattle.arbitrary_base.specs.Range.{InRange}
use Rattle.arbitrary_base.specs.Residue.{residue}
use Rattle.arbitrary_base.proofs.bit_lists.Pointwise.{get_or-pointwise, length-pointwise, pointwise, shl-pointwise, shr-pointwise}
use Rattle.arbitrary_base.proofs.bit_lists.Rotation.{shl-none, shl-shr, shr-none, shr-shl}
use Rattle.arbitrary_base.proofs.bit_lists.SignBit.{InRange-int_shr, val-shl, val-shr}
use Rattle.arbitrary_base.proofs.bit_lists.StdBitwise.{not-signed}
use Rattle.arbitrary_base.proofs.bit_lists.UnsignedNumber.{length-bits, same_length}
use Rattle.arbitrary_base.proofs.modular.Congruence.{Congruent-mul_left}
use Rattle.arbitrary_base.proofs.modular.Residue.{residue-congruent, wrap-same}
use Rattle.arbitrary_base.proofs.operations.Definition.{alike, and-is, bits-and, bits-left, bits-not_zero, bits-or, bits-right, bits-xor, bits-zero, by-bits, left-is, not-in_range, not-is, of-bits, or-is, product-is, right-is, xor-is, zero-is}
use Rattle.arbitrary_base.proofs.operations.WrappedRing.{products-of_differences, products-of_sums}
use Rattle.arbitrary_base.proofs.storages.CheckedSum.{zero-in_range}

pub shifted_left-none : (s : Bool) (B : ℕ) (x : ℤ) → 1 ≤ B → InRange s B x → shifted_left s B x 0 ≡ x
shifted_left-none s B x h f = by-bits _ _ _ _ _ (left-is s B x 0) (of-bits s B x h f) (shl-none (bits B x))

pub shifted_right-none : (s : Bool) (B : ℕ) (x : ℤ) → 1 ≤ B → InRange s B x → shifted_right s B x 0 ≡ x
shifted_right-none s B x h f = by-bits _ _ _ _ _ (right-is s B x 0) (of-bits s B x h f) (shr-none (bits B x) (fill s (bits B x)))

shl-zeros : (n k : ℕ) → k ≤ n → shl (replicate n false) k ≡ replicate n false
shl-zeros n k h =
    ap (λ (m : List Bool). replicate k false ++ m)
    (ap (λ (i : ℕ). take (i - k) (replicate n false)) (length-replicate n false) ∙ take-replicate (n - k) n false (omega arith))
    ∙ replicate-append-replicate k (n - k) false ∙ ap (λ (i : ℕ). replicate i false) (let e : k + (n - k) ≡ n = omega arith in e)

pub shifted_left-zero : (s : Bool) (B k : ℕ) → 1 ≤ B → k ≤ B → shifted_left s B (pos 0) k ≡ pos 0
shifted_left-zero s B k h g =
    by-bits _ _ _ _ _ (left-is s B (pos 0) k) (zero-is s B h) (ap (λ (l : List Bool). shl l k) (bits-zero B) ∙ shl-zeros B k g)

-- ---- a right shift rounds a quotient down

pub shifted_right-is_shr : (s : Bool) (B : ℕ) (x : ℤ) (k : ℕ) → 1 ≤ B → k ≤ B → InRange s B x → shifted_right s B x k ≡ int_shr x k
shifted_right-is_shr s B x k h g f = right-is s B x k ∙ val-shr s B k x h g f

pub shifted_right-zero : (s : Bool) (B k : ℕ) → 1 ≤ B → k ≤ B → shifted_right s B (pos 0) k ≡ pos 0
shifted_right-zero s B k h g = shifted_right-is_shr s B (pos 0) k h g (zero-in_range s B h) ∙ ap pos (zero-div (2 ^ k))

-- the complement of a number with a sign is what it lacks to -1, and each half of that too
not-is_less : (B : ℕ) (x : ℤ) → 1 ≤ B → InRange true B x → bitwise_not true B x ≡ negsuc 0 -ℤ x
not-is_less B x h f = let e = not-signed true B x _ refl h f (not-is true B x) in omega (arith, ints)

int_shr-not : (k : ℕ) (x : ℤ) → int_shr (negsuc 0 -ℤ x) k ≡ negsuc 0 -ℤ int_shr x k
int_shr-not k (pos n) =
    let e : negsuc 0 -ℤ pos n ≡ negsuc n = omega (arith, ints) in
    ap (λ (z : ℤ). int_shr z k) e ∙ (let d : negsuc (n / 2 ^ k) ≡ negsuc 0 -ℤ pos (n / 2 ^ k) = omega (arith, ints) in d)
int_shr-not k (negsuc n) =
    let e : negsuc 0 -ℤ negsuc n ≡ pos n = omega (arith, ints) in
    ap (λ (z : ℤ). int_shr z k) e ∙ (let d : pos (n / 2 ^ k) ≡ negsuc 0 -ℤ negsuc (n / 2 ^ k) = omega (arith, ints) in d)

pub shifted_right-not : (B : ℕ) (x : ℤ) (k : ℕ) → 1 ≤ B → k ≤ B → InRange true B x
    → shifted_right true B (bitwise_not true B x) k ≡ bitwise_not true B (shifted_right true B x k)
shifted_right-not B x k h g f =
    let e = shifted_right-is_shr true B x k h g f in
    shifted_right-is_shr true B _ k h g (not-in_range true B x h) ∙ ap (λ (z : ℤ). int_shr z k) (not-is_less B x h f)
    ∙ int_shr-not k x ∙ sym (not-is_less B (int_shr x k) h (InRange-int_shr true B k x f)) ∙ sym (ap (bitwise_not true B) e)

-- ---- a left shift is a product

pub shifted_left-is_product : (s : Bool) (B : ℕ) (x : ℤ) (k : ℕ) → 1 ≤ B → k ≤ B → shifted_left s B x k ≡ wrapped_product s B x (pos (2 ^ k))
shifted_left-is_product s B x k h g =
    left-is s B x k ∙ val-shl s B k (residue B x) x h g refl
    ∙ wrap-same s B (pos (residue B x * 2 ^ k)) (x *ℤ pos (2 ^ k)) (Congruent-mul_left B (pos (residue B x)) x (pos (2 ^ k)) (residue-congruent B x))
    ∙ sym (product-is s B x (pos (2 ^ k)))

pub shifted_left-sum : (s : Bool) (B : ℕ) (x y : ℤ) (k : ℕ) → 1 ≤ B → k ≤ B
    → shifted_left s B (wrapped_sum s B x y) k ≡ wrapped_sum s B (shifted_left s B x k) (shifted_left s B y k)
shifted_left-sum s B x y k h g =
    shifted_left-is_product s B (wrapped_sum s B x y) k h g ∙ products-of_sums s B x y (pos (2 ^ k)) h
    ∙ sym (ap₂ (wrapped_sum s B) (shifted_left-is_product s B x k h g) (shifted_left-is_product s B y k h g))

pub shifted_left-difference : (s : Bool) (B : ℕ) (x y : ℤ) (k : ℕ) → 1 ≤ B → k ≤ B
    → shifted_left s B (wrapped_difference s B x y) k ≡ wrapped_difference s B (shifted_left s B x k) (shifted_left s B y k)
shifted_left-difference s B x y k h g =
    shifted_left-is_product s B (wrapped_difference s B x y) k h g ∙ products-of_differences s B x y (pos (2 ^ k)) h
    ∙ sym (ap₂ (wrapped_difference s B) (shifted_left-is_product s B x k h g) (shifted_left-is_product s B y k h g))

-- ---- with `and`, `or` and `xor`

pub shifted_left-and : (s : Bool) (B : ℕ) (x y : ℤ) (k : ℕ) → k ≤ B
    → shifted_left s B (bitwise_and s B x y) k ≡ bitwise_and s B (shifted_left s B x k) (shifted_left s B y k)
shifted_left-and s B x y k h =
    by-bits _ _ _ _ _ (left-is s B _ k) (and-is s B _ _)
    (ap (λ (l : List Bool). shl l k) (bits-and s B x y) ∙ shl-pointwise (λ a b. a && b) k (bits B x) (bits B y) refl (same_length B x y)
    ∙ sym (ap₂ bits_and (bits-left s B x k h) (bits-left s B y k h)))

pub shifted_left-or : (s : Bool) (B : ℕ) (x y : ℤ) (k : ℕ) → k ≤ B
    → shifted_left s B (bitwise_or s B x y) k ≡ bitwise_or s B (shifted_left s B x k) (shifted_left s B y k)
shifted_left-or s B x y k h =
    by-bits _ _ _ _ _ (left-is s B _ k) (or-is s B _ _)
    (ap (λ (l : List Bool). shl l k) (bits-or s B x y) ∙ shl-pointwise (λ a b. a || b) k (bits B x) (bits B y) refl (same_length B x y)
    ∙ sym (ap₂ bits_or (bits-left s B x k h) (bits-left s B y k h)))

pub shifted_left-xor : (s : Bool) (B : ℕ) (x y : ℤ) (k : ℕ) → k ≤ B
    → shifted_left s B (bitwise_xor s B x y) k ≡ bitwise_xor s B (shifted_left s B x k) (shifted_left s B y k)
shifted_left-xor s B x y k h =
    by-bits _ _ _ _ _ (left-is s B _ k) (xor-is s B _ _)
    (ap (λ (l : List Bool). shl l k) (bits-xor s B x y) ∙ shl-pointwise (λ a b. not (beq a b)) k (bits B x) (bits B y) refl (same_length B x y)
    ∙ sym (ap₂ bits_xor (bits-left s B x k h) (bits-left s B y k h)))

pub fill-pointwise : (f : Bool → Bool → Bool) (s : Bool) (B : ℕ) (x y : ℤ) → f false false ≡ false
    → fill s (pointwise f (bits B x) (bits B y)) ≡ f (fill s (bits B x)) (fill s (bits B y))
fill-pointwise f false B x y z = sym z
fill-pointwise f true B x y z =
    let n = length-pointwise f (bits B x) (bits B y) (same_length B x y) in
    ap (λ (i : ℕ). get_or (pointwise f (bits B x) (bits B y)) (i - 1) false) n
    ∙ get_or-pointwise f (length (bits B x) - 1) (bits B x) (bits B y) z (same_length B x y)
    ∙ ap (λ (i : ℕ). f (get_or (bits B x) (length (bits B x) - 1) false) (get_or (bits B y) (i - 1) false)) (same_length B x y)

pub shifted_right-and : (s : Bool) (B : ℕ) (x y : ℤ) (k : ℕ) → k ≤ B
    → shifted_right s B (bitwise_and s B x y) k ≡ bitwise_and s B (shifted_right s B x k) (shifted_right s B y k)
shifted_right-and s B x y k h =
    by-bits _ _ _ _ _ (right-is s B _ k) (and-is s B _ _)
    (ap (λ (l : List Bool). shr l k (fill s l)) (bits-and s B x y)
    ∙ ap (shr (bits_and (bits B x) (bits B y)) k) (fill-pointwise (λ a b. a && b) s B x y refl)
    ∙ shr-pointwise (λ a b. a && b) k (fill s (bits B x)) (fill s (bits B y)) (bits B x) (bits B y) (same_length B x y)
    ∙ sym (ap₂ bits_and (bits-right s B x k h) (bits-right s B y k h)))

pub shifted_right-or : (s : Bool) (B : ℕ) (x y : ℤ) (k : ℕ) → k ≤ B
    → shifted_right s B (bitwise_or s B x y) k ≡ bitwise_or s B (shifted_right s B x k) (shifted_right s B y k)
shifted_right-or s B x y k h =
    by-bits _ _ _ _ _ (right-is s B _ k) (or-is s B _ _)
    (ap (λ (l : List Bool). shr l k (fill s l)) (bits-or s B x y)
    ∙ ap (shr (bits_or (bits B x) (bits B y)) k) (fill-pointwise (λ a b. a || b) s B x y refl)
    ∙ shr-pointwise (λ a b. a || b) k (fill s (bits B x)) (fill s (bits B y)) (bits B x) (bits B y) (same_length B x y)
    ∙ sym (ap₂ bits_or (bits-right s B x k h) (bits-right s B y k h)))

pub shifted_right-xor : (s : Bool) (B : ℕ) (x y : ℤ) (k : ℕ) → k ≤ B
    → shifted_right s B (bitwise_xor s B x y) k ≡ bitwise_xor s B (shifted_right s B x k) (shifted_right s B y k)
shifted_right-xor s B x y k h =
    by-bits _ _ _ _ _ (right-is s B _ k) (xor-is s B _ _)
    (ap (λ (l : List Bool). shr l k (fill s l)) (bits-xor s B x y)
    ∙ ap (shr (bits_xor (bits B x) (bits B y)) k) (fill-pointwise (λ a b. not (beq a b)) s B x y refl)
    ∙ shr-pointwise (λ a b. not (beq a b)) k (fill s (bits B x)) (fill s (bits B y)) (bits B x) (bits B y) (same_length B x y)
    ∙ sym (ap₂ bits_xor (bits-right s B x k h) (bits-right s B y k h)))

-- ---- one way and back is a mask

all_ones : (B : ℕ) (x y : ℤ) → bits B y ≡ replicate B true → replicate (length (bits B x)) true ≡ bits B y
all_ones B x y e = alike true B x ∙ sym e

pub right-left : (s : Bool) (B : ℕ) (x y : ℤ) (k : ℕ) → k ≤ B → bits B y ≡ replicate B true
    → shifted_left s B (shifted_right s B x k) k ≡ bitwise_and s B x (shifted_left s B y k)
right-left s B x y k h e =
    let n = length-bits B x in
    by-bits _ _ _ _ _ (left-is s B _ k) (and-is s B x _)
    (ap (λ (l : List Bool). shl l k) (bits-right s B x k h) ∙ shr-shl (bits B x) k (fill s (bits B x)) (omega arith)
    ∙ ap (λ (l : List Bool). bits_and (bits B x) (shl l k)) (all_ones B x y e) ∙ ap (bits_and (bits B x)) (sym (bits-left s B y k h)))

pub left-right : (B : ℕ) (x y : ℤ) (k : ℕ) → k ≤ B → bits B y ≡ replicate B true
    → shifted_right false B (shifted_left false B x k) k ≡ bitwise_and false B x (shifted_right false B y k)
left-right B x y k h e =
    let n = length-bits B x in
    by-bits _ _ _ _ _ (right-is false B _ k) (and-is false B x _)
    (ap (λ (l : List Bool). shr l k false) (bits-left false B x k h) ∙ shl-shr (bits B x) k (omega arith)
    ∙ ap (λ (l : List Bool). bits_and (bits B x) (shr l k false)) (all_ones B x y e) ∙ ap (bits_and (bits B x)) (sym (bits-right false B y k h)))

pub right_left-mask_not : (s : Bool) (B : ℕ) (x : ℤ) (k : ℕ) → k ≤ B
    → shifted_left s B (shifted_right s B x k) k ≡ bitwise_and s B x (shifted_left s B (bitwise_not s B (pos 0)) k)
right_left-mask_not s B x k h = right-left s B x _ k h (bits-not_zero s B)

pub left_right-mask_not : (B : ℕ) (x : ℤ) (k : ℕ) → k ≤ B
    → shifted_right false B (shifted_left false B x k) k ≡ bitwise_and false B x (shifted_right false B (bitwise_not false B (pos 0)) k)
left_right-mask_not B x k h = left-right B x _ k h (bits-not_zero false B)
