-- A field in arithmetic: the extracted number is the source, shifted right and masked.
use Rattle.std.specs.Prelude.{◌≡◌, ℕ, ℤ, Bool, true, false, pos, negsuc, neg_ℤ, ◌+◌, ◌/◌, ◌%◌, ◌^◌, ◌≤◌, ◌<◌, ◌-ℤ◌, ◌*ℤ◌, unsigned_abs, length, take, drop, replicate}
use Rattle.std.specs.Int.{int_shr}
use Rattle.std.proofs.Common.{arith, refl, ap, sym, ◌∙◌, length-drop, pow-add}
use Rattle.std.proofs.lemmas.Int.{ints}
use Rattle.std.proofs.lemmas.Nat.{pow_pos}
use Rattle.std.proofs.lemmas.List.{take-append-le}
use Rattle.arbitrary_base.specs.Range.{InRange}
use Rattle.arbitrary_base.specs.Residue.{Congruent, residue, wrap}
use Rattle.arbitrary_base.specs.BitList.{bits, num, val, fill}
use Rattle.arbitrary_base.specs.Field.{IsField, field}
use Rattle.arbitrary_base.proofs.integers.Ring.{sub-mul_z, mul_assoc_z, neg-mul_z, pos-unsigned_abs}
use Rattle.arbitrary_base.proofs.modular.Residue.{residue-congruent, wrap-same}
use Rattle.arbitrary_base.proofs.storages.Primitive.{mod-congruent, residue-pos, wrap-pos}
use Rattle.arbitrary_base.proofs.modular.Truncation.{residue-mod}
use Rattle.arbitrary_base.proofs.bit_lists.UnsignedNumber.{length-bits, num-take}
use Rattle.arbitrary_base.proofs.bit_lists.Movement.{length-items}
use Rattle.arbitrary_base.proofs.bit_lists.TwosComplement.{val-num, num-bits_residue}
use Rattle.arbitrary_base.proofs.bit_lists.SignBit.{bits-int_shr}
use Rattle.arbitrary_base.proofs.bit_lists.ResultOfPattern.{items-value}
use Rattle.arbitrary_base.proofs.modular.ExactOrCongruent.{wrapped-congruent}
use Rattle.arbitrary_base.proofs.operations.ShiftAsProduct.{int_shr-low, int_shr-high}
use Rattle.arbitrary_base.proofs.modular.Congruence.{times}

pub val-items : (s : Bool) (B W start n : ℕ) → 1 ≤ B → start + B ≤ W → n < 2 ^ W
    → val s (take B (drop start (bits W (pos n)))) ≡ wrap s B (pos (n / 2 ^ start))
val-items s B W start n h g f = sym (items-value s B W start n (n / 2 ^ start) (pos n) _ h g (sym (residue-pos W n f)) refl refl)

pub items-congruent : (s : Bool) (B W start n : ℕ) → 1 ≤ B → start + B ≤ W → n < 2 ^ W
    → Congruent B (val s (take B (drop start (bits W (pos n))))) (pos (n / 2 ^ start))
items-congruent s B W start n h g f = wrapped-congruent s B (pos (n / 2 ^ start)) _ (val-items s B W start n h g f)

pub field-items : (W start B n : ℕ) → 1 ≤ B → start + B ≤ W → n < 2 ^ W → val false (take B (drop start (bits W (pos n)))) ≡ field n start B
field-items W start B n h g f = val-items false B W start n h g f ∙ wrap-pos B (n / 2 ^ start) h

pub items-wrapped : (s : Bool) (B W start n : ℕ) → 1 ≤ B → start + B ≤ W → n < 2 ^ W
    → val s (take B (drop start (bits W (pos n)))) ≡ wrap s B (field n start B)
items-wrapped s B W start n h g f = val-items s B W start n h g f ∙ sym (wrap-same s B _ _ (mod-congruent B (n / 2 ^ start)))

pub items-plain : (s : Bool) (B W start n : ℕ) → s ≡ false → 1 ≤ B → start + B ≤ W → n < 2 ^ W
    → val s (take B (drop start (bits W (pos n)))) ≡ pos (n / 2 ^ start % 2 ^ B)
items-plain s B W start n e h g f = ap (λ (t : Bool). val t (take B (drop start (bits W (pos n))))) e ∙ field-items W start B n h g f

pub items-number : (s : Bool) (B W start : ℕ) (x z : ℤ) → s ≡ false → 1 ≤ B → start + B ≤ W → InRange s W x → z ≡ val s (take B (drop start (bits W x)))
    → z ≡ pos (unsigned_abs x / 2 ^ start % 2 ^ B)
items-number true B W start x z d h g f e = cc
items-number false B W start (negsuc n) z d h g f e = let l = f.low in absurd (omega (arith, ints))
items-number false B W start (pos n) z d h g f e =
    let t = f.high in
    let p = pow_pos W in
    e ∙ field-items W start B n h g (omega (arith, ints))

-- ---- of a source with a sign

items-shifted : (B W start : ℕ) (x : ℤ) → 1 ≤ B → start + B ≤ W → InRange true W x → take B (drop start (bits W x)) ≡ take B (bits W (int_shr x start))
items-shifted B W start x h g r =
    let n : B ≤ length (drop start (bits W x)) = omega (arith, length-drop start (bits W x), length-bits W x) in
    sym (ap (take B) (bits-int_shr true W start x (omega arith) (omega arith) r)
    ∙ take-append-le B (drop start (bits W x)) (replicate start (fill true (bits W x))) n)

items-wrap : (s : Bool) (B W start : ℕ) (x z : ℤ) → 1 ≤ B → start + B ≤ W → InRange true W x → z ≡ val s (take B (drop start (bits W x))) → z ≡ wrap s B (int_shr x start)
items-wrap s B W start x z h g r e =
    let l : length (take B (drop start (bits W x))) ≡ B = length-items start B (bits W x) (omega (arith, length-bits W x)) in
    let n : num (take B (drop start (bits W x))) ≡ residue B (int_shr x start) =
    ap num (items-shifted B W start x h g r) ∙ num-take B (bits W (int_shr x start)) ∙ ap (λ (m : ℕ). m % 2 ^ B) (num-bits_residue W (int_shr x start))
    ∙ residue-mod B W (int_shr x start) h (omega arith) in
    e ∙ val-num s B _ l ∙ ap (λ (m : ℕ). wrap s B (pos m)) n ∙ wrap-same s B _ (int_shr x start) (residue-congruent B (int_shr x start))

-- shifted up again, it is the source but for the bits below and above it
field-of : (start B : ℕ) (x z : ℤ) → Congruent B z (int_shr x start) → IsField start B x z
field-of start B x z c =
    let q = int_shr x start in
    let t = times B z (int_shr x start) c in
    let low = int_shr-low start x in
    let high = int_shr-high start x in
    let rest : pos (unsigned_abs (x -ℤ int_shr x start *ℤ pos (2 ^ start))) ≡ x -ℤ int_shr x start *ℤ pos (2 ^ start) = pos-unsigned_abs _ (omega (arith, ints)) in
    let product : (z -ℤ int_shr x start) *ℤ pos (2 ^ start) ≡ t.0 *ℤ pos (2 ^ (start + B)) =
    ap (λ (n : ℤ). n *ℤ pos (2 ^ start)) t.1 ∙ mul_assoc_z t.0 (pos (2 ^ B)) (pos (2 ^ start))
    ∙ ap (λ (n : ℕ). t.0 *ℤ pos n) (omega (arith, pow-add 2 start B)) in
    let apart = sub-mul_z z (int_shr x start) (pos (2 ^ start)) in
    let turned = neg-mul_z t.0 (pos (2 ^ (start + B))) in
    record { below = unsigned_abs (x -ℤ int_shr x start *ℤ pos (2 ^ start)); above = neg_ℤ t.0; short = omega (arith, ints); made = omega (arith, ints) }

pub items-field : (s : Bool) (B W start : ℕ) (x : ℤ) → 1 ≤ B → start + B ≤ W → InRange true W x → IsField start B x (val s (take B (drop start (bits W x))))
items-field s B W start x h g r = field-of start B x _ (wrapped-congruent s B (int_shr x start) _ (items-wrap s B W start x _ h g r refl))
