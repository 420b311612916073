-- The bitwise operators, as std defines them on numbers.
use Rattle.std.specs.Prelude.{◌≡◌, ℕ, ℤ, Bool, List, [], ◌∷◌, true, false, pos, negsuc, neg_ℤ, ◌-◌, ◌^◌, ◌≤◌, ◌<◌, ◌-ℤ◌, ◌≤ℤ◌, unsigned_abs, length, map, not}
use Rattle.std.specs.Int.Bits.{bit_and, bit_or, bit_xor}
use Rattle.std.proofs.Common.{arith, refl, ap, ap₂, sym, subst, ◌∙◌, lt_of_lt_of_le, lt_of_le_of_lt}
use Rattle.std.proofs.lemmas.Int.{ints}
use Rattle.std.proofs.lemmas.Nat.{pow_pos, or_lt, xor_lt}
use Rattle.arbitrary_base.specs.Range.{InRange}
use Rattle.arbitrary_base.specs.Residue.{wrap}
use Rattle.arbitrary_base.specs.BitList.{bits, num, val, bits_and, bits_or, bits_xor}
use Rattle.arbitrary_base.proofs.integers.Ring.{pos-unsigned_abs}
use Rattle.arbitrary_base.proofs.modular.Congruence.{pow_le}
use Rattle.arbitrary_base.proofs.modular.Residue.{wrap-of_in_range}
use Rattle.arbitrary_base.proofs.storages.CheckedSum.{wrap-zero}
use Rattle.arbitrary_base.proofs.storages.Primitive.{unsigned-in_range}
use Rattle.arbitrary_base.proofs.bit_lists.Pointwise.{not-not}
use Rattle.arbitrary_base.proofs.bit_lists.UnsignedNumber.{length-bits, same_length, length-and, length-not, length-or, length-xor, num-and, num-bits_small, num-lt_of, num-not, num-or, num-xor}
use Rattle.arbitrary_base.proofs.bit_lists.TwosComplement.{bits-negsuc, val-bits_in_range, val-num}

-- how many bits a number of the type has that is not below zero
abbrev pub reach : Bool → ℕ → ℕ
reach false B = B
reach true B = B - 1

below-reach : (s : Bool) (B : ℕ) (x : ℤ) → InRange s B x → pos 0 ≤ℤ x → unsigned_abs x < 2 ^ reach s B
below-reach s B (negsuc n) f p = absurd (omega (arith, ints))
below-reach false B (pos n) f p = let t = f.high in let o = pow_pos B in omega (arith, ints)
below-reach true B (pos n) f p = let t = f.high in let o = pow_pos (B - 1) in omega (arith, ints)

in_range-reach : (s : Bool) (B n : ℕ) → n < 2 ^ reach s B → InRange s B (pos n)
in_range-reach false B n h = unsigned-in_range B n h
in_range-reach true B n h = let o = pow_pos (B - 1) in record { low = omega (arith, ints); high = omega (arith, ints) }

-- in range and not below zero, the bits spell the number itself
pub num-plain : (s : Bool) (B : ℕ) (x : ℤ) → InRange s B x → pos 0 ≤ℤ x → num (bits B x) ≡ unsigned_abs x
num-plain s B (negsuc n) f p = absurd (omega (arith, ints))
num-plain s B (pos n) f p = num-bits_small B n (lt_of_lt_of_le (below-reach s B (pos n) f p) (pow_le (reach s B) B (reach-le s B)))
  where
    reach-le : (s : Bool) (B : ℕ) → reach s B ≤ B
    reach-le false B = omega arith
    reach-le true B = omega arith

pub val-plain : (s : Bool) (B n : ℕ) (l : List Bool) → 1 ≤ B → length l ≡ B → num l ≡ n → n < 2 ^ reach s B → val s l ≡ pos n
val-plain s B n l h e d g =
    val-num s B l e ∙ ap (λ (m : ℕ). wrap s B (pos m)) d ∙ wrap-of_in_range s B (pos n) h (in_range-reach s B n g)

num-and_left : (l m : List Bool) → num (bits_and l m) ≤ num l
num-and_left [] m = omega arith
num-and_left (a ∷ l) [] = omega arith
num-and_left (true ∷ l) (true ∷ m) = omega (arith, num-and_left l m)
num-and_left (true ∷ l) (false ∷ m) = omega (arith, num-and_left l m)
num-and_left (false ∷ l) (b ∷ m) = omega (arith, num-and_left l m)

pub num-and_right : (l m : List Bool) → num (bits_and l m) ≤ num m
num-and_right [] m = omega arith
num-and_right (a ∷ l) [] = omega arith
num-and_right (true ∷ l) (b ∷ m) = omega (arith, num-and_right l m)
num-and_right (false ∷ l) (true ∷ m) = omega (arith, num-and_right l m)
num-and_right (false ∷ l) (false ∷ m) = omega (arith, num-and_right l m)

-- with a number that is not below zero, the result is between 0 and that number
between : (s : Bool) (B : ℕ) (x z : ℤ) (l : List Bool) → 1 ≤ B → length l ≡ B → num l ≤ unsigned_abs x → InRange s B x → pos 0 ≤ℤ x → z ≡ val s l → (pos 0 ≤ℤ z) × (z ≤ℤ x)
between s B x z l h e g f p d =
    let v : z ≡ pos (num l) = d ∙ val-plain s B (num l) l h e refl (lt_of_le_of_lt g (below-reach s B x f p)) in
    let a = pos-unsigned_abs x p in
    (omega (arith, ints), omega (arith, ints))

pub not_below_zero : (s : Bool) (B : ℕ) (x : ℤ) → s ≡ false → InRange s B x → pos 0 ≤ℤ x
not_below_zero true B x d f = absurd (cc)
not_below_zero false B x d f = f.low

pub and-left : (s : Bool) (B : ℕ) (x y z : ℤ) → 1 ≤ B → InRange s B x → z ≡ val s (bits_and (bits B x) (bits B y)) → pos 0 ≤ℤ x → (pos 0 ≤ℤ z) × (z ≤ℤ x)
and-left s B x y z h f e p =
    between s B x z (bits_and (bits B x) (bits B y)) h (length-and (bits B x) (bits B y) (same_length B x y) ∙ length-bits B x)
    (omega (arith, num-and_left (bits B x) (bits B y), num-plain s B x f p)) f p e

pub and-right : (s : Bool) (B : ℕ) (x y z : ℤ) → 1 ≤ B → InRange s B y → z ≡ val s (bits_and (bits B x) (bits B y)) → pos 0 ≤ℤ y → (pos 0 ≤ℤ z) × (z ≤ℤ y)
and-right s B x y z h f e p =
    between s B y z (bits_and (bits B x) (bits B y)) h (length-and (bits B x) (bits B y) (same_length B x y) ∙ length-bits B x)
    (omega (arith, num-and_right (bits B x) (bits B y), num-plain s B y f p)) f p e

pub and-plain : (s : Bool) (B : ℕ) (x y z : ℤ) → 1 ≤ B → InRange s B x → InRange s B y → z ≡ val s (bits_and (bits B x) (bits B y)) → pos 0 ≤ℤ x → pos 0 ≤ℤ y
    → z ≡ pos (bit_and (unsigned_abs x) (unsigned_abs y))
and-plain s B x y z h f g e p q =
    let n = num-and (bits B x) (bits B y) ∙ ap₂ bit_and (num-plain s B x f p) (num-plain s B y g q) in
    let l = num-and_left (bits B x) (bits B y) in
    let i = num-plain s B x f p in
    let b = below-reach s B x f p in
    e ∙ val-plain s B _ _ h (length-and (bits B x) (bits B y) (same_length B x y) ∙ length-bits B x) n (omega arith)

pub or-plain : (s : Bool) (B : ℕ) (x y z : ℤ) → 1 ≤ B → InRange s B x → InRange s B y → z ≡ val s (bits_or (bits B x) (bits B y)) → pos 0 ≤ℤ x → pos 0 ≤ℤ y
    → z ≡ pos (bit_or (unsigned_abs x) (unsigned_abs y))
or-plain s B x y z h f g e p q =
    e ∙ val-plain s B _ _ h (length-or (bits B x) (bits B y) (same_length B x y) ∙ length-bits B x)
    (num-or (bits B x) (bits B y) (same_length B x y) ∙ ap₂ bit_or (num-plain s B x f p) (num-plain s B y g q))
    (or_lt (reach s B) _ _ (below-reach s B x f p) (below-reach s B y g q))

pub xor-plain : (s : Bool) (B : ℕ) (x y z : ℤ) → 1 ≤ B → InRange s B x → InRange s B y → z ≡ val s (bits_xor (bits B x) (bits B y)) → pos 0 ≤ℤ x → pos 0 ≤ℤ y
    → z ≡ pos (bit_xor (unsigned_abs x) (unsigned_abs y))
xor-plain s B x y z h f g e p q =
    e ∙ val-plain s B _ _ h (length-xor (bits B x) (bits B y) (same_length B x y) ∙ length-bits B x)
    (num-xor (bits B x) (bits B y) (same_length B x y) ∙ ap₂ bit_xor (num-plain s B x f p) (num-plain s B y g q))
    (xor_lt (reach s B) _ _ (below-reach s B x f p) (below-reach s B y g q))

num-xor_same : (l : List Bool) → num (bits_xor l l) ≡ 0
num-xor_same [] = refl
num-xor_same (true ∷ l) = omega (arith, num-xor_same l)
num-xor_same (false ∷ l) = omega (arith, num-xor_same l)

pub xor-same : (s : Bool) (B : ℕ) (x y z : ℤ) → 1 ≤ B → z ≡ val s (bits_xor (bits B x) (bits B y)) → x ≡ y → z ≡ pos 0
xor-same s B x y z h e i =
    e ∙ ap (λ (w : ℤ). val s (bits_xor (bits B x) (bits B w))) (sym i)
    ∙ val-num s B _ (length-xor (bits B x) (bits B x) refl ∙ length-bits B x) ∙ ap (λ (n : ℕ). wrap s B (pos n)) (num-xor_same (bits B x))
    ∙ wrap-zero s B h

pub not-unsigned : (s : Bool) (B : ℕ) (x z : ℤ) → s ≡ false → 1 ≤ B → InRange s B x → z ≡ val s (map not (bits B x)) → z ≡ pos (2 ^ B) -ℤ pos 1 -ℤ x
not-unsigned true B x z d h f e = cc
not-unsigned false B x z d h f e =
    let p = f.low in
    let l = length-not (bits B x) ∙ length-bits B x in
    let v : z ≡ pos (num (map not (bits B x))) = e ∙ val-plain false B _ (map not (bits B x)) h l refl (num-lt_of B (map not (bits B x)) l) in
    let t = num-not (bits B x) in
    let u = num-plain false B x f p in
    let w : 2 ^ length (bits B x) ≡ 2 ^ B = ap (λ (m : ℕ). 2 ^ m) (length-bits B x) in
    let a = pos-unsigned_abs x p in
    omega (arith, ints)

below-zero : (B : ℕ) (x : ℤ) → InRange true B x → InRange true B (neg_ℤ x -ℤ pos 1)
below-zero B x f = let l = f.low in let t = f.high in record { low = omega (arith, ints); high = omega (arith, ints) }

pub not-signed : (s : Bool) (B : ℕ) (x z : ℤ) → s ≡ true → 1 ≤ B → InRange s B x → z ≡ val s (map not (bits B x)) → z ≡ neg_ℤ x -ℤ pos 1
not-signed false B x z d h f e = cc
not-signed true B (pos n) z d h f e =
    let i : neg_ℤ (pos n) -ℤ pos 1 ≡ negsuc n = omega (arith, ints) in
    let r : InRange true B (negsuc n) = subst (λ (w : ℤ). InRange true B w) i (below-zero B (pos n) f) in
    e ∙ ap (val true) (sym (bits-negsuc B n)) ∙ val-bits_in_range true B (negsuc n) h r ∙ sym i
not-signed true B (negsuc n) z d h f e =
    let i : neg_ℤ (negsuc n) -ℤ pos 1 ≡ pos n = omega (arith, ints) in
    let r : InRange true B (pos n) = subst (λ (w : ℤ). InRange true B w) i (below-zero B (negsuc n) f) in
    e ∙ ap (λ (l : List Bool). val true (map not l)) (bits-negsuc B n) ∙ ap (val true) (not-not (bits B (pos n))) ∙ val-bits_in_range true B (pos n) h r ∙ sym i
