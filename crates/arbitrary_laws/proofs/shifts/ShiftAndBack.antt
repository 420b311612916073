-- Two shifts one after another: as one, past the width, and left and back, as a mask or for a small number.
use Rattle.std.specs.Int.{int_shr}
use Rattle.std.specs.Prelude.{Bool, List, false, neg_ℤ, negsuc, pos, true, ℕ, ℤ, ◌*ℤ◌, ◌*◌, ◌+◌, ◌-ℤ◌, ◌-◌, ◌/◌, ◌<◌, ◌^◌, ◌≡◌, ◌≤◌}
use Rattle.std.proofs.Common.{ap, arith, pow-add, refl, sym, ◌∙◌}
use Rattle.std.proofs.Math.IntN.{*ℤ_comm}
use Rattle.std.proofs.Math.Nat.{div-div-eq-div-mul, div-eq_of_lt-le, pow-le-pow_right}
use Rattle.std.proofs.lemmas.Int.{ints}
use Rattle.std.proofs.lemmas.Nat.{pow_pos}
use Rattle.arbitrary_base.specs.BitList.{bits, shl}
use Rattle.arbitrary_base.specs.Operation.{bitwise_and, shifted_left, shifted_right}
use Rattle.arbitrary_base.specs.Range.{InRange}
use Rattle.arbitrary_base.specs.Residue.{Congruent}
use Rattle.arbitrary_base.proofs.bit_lists.SignBit.{InRange-int_shr}
use Rattle.arbitrary_base.proofs.bit_lists.UnsignedNumber.{length-bits}
use Rattle.arbitrary_base.proofs.integers.Ring.{sub-mul_z}
use Rattle.arbitrary_base.proofs.modular.Congruence.{Congruent-by_times, Congruent-refl}
use Rattle.arbitrary_base.proofs.operations.Definition.{alike, bits-highest, bits-left, bits-minus_one, by-bits, left-is, zero-is}
use Rattle.arbitrary_base.proofs.operations.Shift.{left-right, right-left, shifted_left-is_product, shifted_right-is_shr}
use Rattle.arbitrary_base.proofs.operations.ShiftAsProduct.{shl-stays}
use Rattle.arbitrary_base.proofs.operations.WrappedRing.{by-congruence, product-congruent, product-in_range}
use Rattle.arbitrary_laws.proofs.rotations.RotatedLists.{shl-past, shl-twice}

-- ---- a right shift rounds a quotient down

int_shr-twice : (x : ℤ) (a b : ℕ) → int_shr (int_shr x a) b ≡ int_shr x (a + b)
int_shr-twice (pos n) a b = ap pos (div-div-eq-div-mul n (2 ^ a) (2 ^ b) ∙ ap (λ (k : ℕ). n / k) (sym (pow-add 2 a b)))
int_shr-twice (negsuc n) a b = ap negsuc (div-div-eq-div-mul n (2 ^ a) (2 ^ b) ∙ ap (λ (k : ℕ). n / k) (sym (pow-add 2 a b)))

pub shifted_right-twice : (s : Bool) (B : ℕ) (x : ℤ) (a b : ℕ) → 1 ≤ B → a + b ≤ B → InRange s B x
    → shifted_right s B (shifted_right s B x a) b ≡ shifted_right s B x (a + b)
shifted_right-twice s B x a b h g f =
    let one = shifted_right-is_shr s B x a h (omega arith) f in
    ap (λ (z : ℤ). shifted_right s B z b) one
    ∙ shifted_right-is_shr s B (int_shr x a) b h (omega arith) (InRange-int_shr s B a x f)
    ∙ int_shr-twice x a b ∙ sym (shifted_right-is_shr s B x (a + b) h g f)

-- ---- a left shift is a product

pub shifted_left-twice : (s : Bool) (B : ℕ) (x : ℤ) (a b : ℕ) → a + b ≤ B → shifted_left s B (shifted_left s B x a) b ≡ shifted_left s B x (a + b)
shifted_left-twice s B x a b h =
    let n = length-bits B x in
    by-bits _ _ _ _ _ (left-is s B _ b) (left-is s B x (a + b))
    (ap (λ (l : List Bool). shl l b) (bits-left s B x a (omega arith)) ∙ shl-twice (bits B x) a b (omega arith))

pub shifted_left-past : (s : Bool) (B : ℕ) (x : ℤ) (a b : ℕ) → 1 ≤ B → a ≤ B → b ≤ B → B ≤ a + b → shifted_left s B (shifted_left s B x a) b ≡ pos 0
shifted_left-past s B x a b o h g e =
    let n = length-bits B x in
    by-bits _ _ _ _ _ (left-is s B _ b) (zero-is s B o)
    (ap (λ (l : List Bool). shl l b) (bits-left s B x a h) ∙ shl-past (bits B x) a b (omega arith) (omega arith) (omega arith) ∙ alike false B x)

-- ---- one way and back is a mask

pub right_left-mask : (B : ℕ) (x : ℤ) (k : ℕ) → k ≤ B
    → shifted_left false B (shifted_right false B x k) k ≡ bitwise_and false B x (shifted_left false B (pos (2 ^ B) -ℤ pos 1) k)
right_left-mask B x k h = right-left false B x _ k h (bits-highest B)

pub right_left-mask_signed : (B : ℕ) (x : ℤ) (k : ℕ) → k ≤ B
    → shifted_left true B (shifted_right true B x k) k ≡ bitwise_and true B x (shifted_left true B (negsuc 0) k)
right_left-mask_signed B x k h = right-left true B x _ k h (bits-minus_one B)

pub left_right-mask : (B : ℕ) (x : ℤ) (k : ℕ) → k ≤ B
    → shifted_right false B (shifted_left false B x k) k ≡ bitwise_and false B x (shifted_right false B (pos (2 ^ B) -ℤ pos 1) k)
left_right-mask B x k h = left-right B x _ k h (bits-highest B)

-- ---- the same with the mask as a numeral

highest-left : (B k : ℕ) → 1 ≤ B → k ≤ B → shifted_left false B (pos (2 ^ B) -ℤ pos 1) k ≡ pos (2 ^ B) -ℤ pos (2 ^ k)
highest-left B k h g =
    let p = pow_pos k in
    let q : 2 ^ k ≤ 2 ^ B = pow-le-pow_right (omega arith) g in
    let f : InRange false B (pos (2 ^ B) -ℤ pos (2 ^ k)) = record { low = omega (arith, ints); high = omega (arith, ints) } in
    let a = sub-mul_z (pos (2 ^ B)) (pos 1) (pos (2 ^ k)) in
    let b = sub-mul_z (pos 1) (pos (2 ^ k)) (pos (2 ^ B)) in
    let c = *ℤ_comm (pos (2 ^ B)) (pos (2 ^ k)) in
    let e : Congruent B (pos (2 ^ B) -ℤ pos (2 ^ k)) ((pos (2 ^ B) -ℤ pos 1) *ℤ pos (2 ^ k)) = Congruent-by_times _ _ _ (pos 1 -ℤ pos (2 ^ k)) (omega (arith, ints)) in
    shifted_left-is_product false B _ k h g
    ∙ by-congruence false B _ _ _ _ h (product-in_range false B _ _ h) f (product-congruent false B _ _ _ _ (Congruent-refl B _) (Congruent-refl B _)) e refl

pub right_left-numeral : (B : ℕ) (x : ℤ) (k : ℕ) → 1 ≤ B → k ≤ B
    → shifted_left false B (shifted_right false B x k) k ≡ bitwise_and false B x (pos (2 ^ B) -ℤ pos (2 ^ k))
right_left-numeral B x k h g = right_left-mask B x k g ∙ ap (bitwise_and false B x) (highest-left B k h g)

pub right_left-numeral_signed : (B : ℕ) (x : ℤ) (k : ℕ) → 1 ≤ B → k < B
    → shifted_left true B (shifted_right true B x k) k ≡ bitwise_and true B x (neg_ℤ (pos (2 ^ k)))
right_left-numeral_signed B x k h g =
    let p = pow_pos k in
    let q : 2 ^ k ≤ 2 ^ (B - 1) = pow-le-pow_right (omega arith) (omega arith) in
    let f : InRange true B (negsuc 0 *ℤ pos (2 ^ k)) = record { low = omega (arith, ints); high = omega (arith, ints) } in
    let e = shl-stays true B k (negsuc 0) _ h g f (left-is true B (negsuc 0) k) in
    right_left-mask_signed B x k (omega arith) ∙ ap (bitwise_and true B x) (e ∙ (let d : negsuc 0 *ℤ pos (2 ^ k) ≡ neg_ℤ (pos (2 ^ k)) = omega (arith, ints) in d))

highest-right : (B k : ℕ) → 1 ≤ B → k ≤ B → shifted_right false B (pos (2 ^ B) -ℤ pos 1) k ≡ pos (2 ^ (B - k)) -ℤ pos 1
highest-right B k h g =
    let p = pow_pos B in
    let q = pow_pos (B - k) in
    let r = pow_pos k in
    let f : InRange false B (pos (2 ^ B) -ℤ pos 1) = record { low = omega (arith, ints); high = omega (arith, ints) } in
    let e : 2 ^ (B - k) * 2 ^ k ≡ 2 ^ B = sym (pow-add 2 (B - k) k) ∙ ap (λ (n : ℕ). 2 ^ n) (omega arith) in
    let m : pos (2 ^ B) -ℤ pos 1 ≡ pos (2 ^ B - 1) = omega (arith, ints) in
    let d : (2 ^ B - 1) / 2 ^ k ≡ 2 ^ (B - k) - 1 = div-eq_of_lt-le (2 ^ k) (grind arith) (grind arith) in
    shifted_right-is_shr false B _ k h g f ∙ ap (λ (z : ℤ). int_shr z k) m ∙ (let w : pos ((2 ^ B - 1) / 2 ^ k) ≡ pos (2 ^ (B - k)) -ℤ pos 1 = omega (arith, ints) in w)

pub left_right-numeral : (B : ℕ) (x : ℤ) (k : ℕ) → 1 ≤ B → k ≤ B
    → shifted_right false B (shifted_left false B x k) k ≡ bitwise_and false B x (pos (2 ^ (B - k)) -ℤ pos 1)
left_right-numeral B x k h g = left_right-mask B x k g ∙ ap (bitwise_and false B x) (highest-right B k h g)
