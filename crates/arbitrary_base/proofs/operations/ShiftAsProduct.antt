-- Shifts in arithmetic: a left shift is a product that wraps, and a right shift a quotient that rounds down.
use Rattle.std.specs.Prelude.{◌≡◌, ℕ, ℤ, Bool, true, false, pos, negsuc, ◌+◌, ◌-◌, ◌*◌, ◌%◌, ◌^◌, ◌≤◌, ◌<◌, ◌+ℤ◌, ◌*ℤ◌, ◌≤ℤ◌, ◌<ℤ◌, unsigned_abs, int_div}
use Rattle.std.specs.Int.{int_shr}
use Rattle.std.proofs.Common.{arith, refl, sym, subst, ◌∙◌, mod-lt}
use Rattle.std.proofs.Math.Nat.{div-add-mod'}
use Rattle.std.proofs.Math.Pow.{shr_lt}
use Rattle.std.proofs.lemmas.Int.{ints}
use Rattle.std.proofs.lemmas.Nat.{pow_pos}
use Rattle.arbitrary_base.specs.Range.{InRange}
use Rattle.arbitrary_base.specs.Residue.{Congruent, residue, wrap}
use Rattle.arbitrary_base.specs.BitList.{bits, val, fill, shl, shr}
use Rattle.arbitrary_base.proofs.modular.Congruence.{Congruent-trans, Congruent-mul_left}
use Rattle.arbitrary_base.proofs.modular.Residue.{congruent-same, residue-congruent, wrap-in_range}
use Rattle.arbitrary_base.proofs.storages.Primitive.{residue-pos, wrap-pos}
use Rattle.arbitrary_base.proofs.bit_lists.SignBit.{val-shl, val-shr}
use Rattle.arbitrary_base.proofs.modular.ExactOrCongruent.{wrapped-congruent}

pub shl-congruent : (s : Bool) (B k : ℕ) (x z : ℤ) → 1 ≤ B → k < B → z ≡ val s (shl (bits B x) k) → Congruent B z (x *ℤ pos (2 ^ k))
shl-congruent s B k x z h g e =
    Congruent-trans B z (pos (residue B x * 2 ^ k)) _
    (wrapped-congruent s B (pos (residue B x * 2 ^ k)) z (e ∙ val-shl s B k (residue B x) x h (omega arith) refl))
    (Congruent-mul_left B (pos (residue B x)) x (pos (2 ^ k)) (residue-congruent B x))

pub shl-stays : (s : Bool) (B k : ℕ) (x z : ℤ) → 1 ≤ B → k < B → InRange s B (x *ℤ pos (2 ^ k)) → z ≡ val s (shl (bits B x) k) → z ≡ x *ℤ pos (2 ^ k)
shl-stays s B k x z h g f e =
    let d : z ≡ wrap s B (pos (residue B x * 2 ^ k)) = e ∙ val-shl s B k (residue B x) x h (omega arith) refl in
    congruent-same s B z (x *ℤ pos (2 ^ k)) h (subst (InRange s B) (sym d) (wrap-in_range s B _ h)) f (shl-congruent s B k x z h g e)

pub shl-plain : (s : Bool) (B k : ℕ) (x z : ℤ) → s ≡ false → 1 ≤ B → k < B → InRange s B x → z ≡ val s (shl (bits B x) k)
    → z ≡ pos (unsigned_abs x * 2 ^ k % 2 ^ B)
shl-plain true B k x z d h g f e = cc
shl-plain false B k (negsuc n) z d h g f e = let l = f.low in absurd (omega (arith, ints))
shl-plain false B k (pos n) z d h g f e =
    let t = f.high in let p = pow_pos B in
    e ∙ val-shl false B k n (pos n) h (omega arith) (sym (residue-pos B n (omega (arith, ints)))) ∙ wrap-pos B (n * 2 ^ k) h

pub int_shr-low : (k : ℕ) (x : ℤ) → (int_shr x k *ℤ pos (2 ^ k)) ≤ℤ x
int_shr-low k (pos n) = let e = div-add-mod' n (2 ^ k) in omega (arith, ints)
int_shr-low k (negsuc n) = let e = div-add-mod' n (2 ^ k) in let m = mod-lt n (pow_pos k) in omega (arith, ints)

pub int_shr-high : (k : ℕ) (x : ℤ) → x <ℤ (int_shr x k *ℤ pos (2 ^ k) +ℤ pos (2 ^ k))
int_shr-high k (pos n) = let e = div-add-mod' n (2 ^ k) in let m = mod-lt n (pow_pos k) in omega (arith, ints)
int_shr-high k (negsuc n) = let e = div-add-mod' n (2 ^ k) in omega (arith, ints)

pub shr-low : (s : Bool) (B k : ℕ) (x z : ℤ) → 1 ≤ B → k < B → InRange s B x → z ≡ val s (shr (bits B x) k (fill s (bits B x))) → (z *ℤ pos (2 ^ k)) ≤ℤ x
shr-low s B k x z h g f e =
    subst (λ (y : ℤ). (y *ℤ pos (2 ^ k)) ≤ℤ x) (sym (e ∙ val-shr s B k x h (omega arith) f)) (int_shr-low k x)

pub shr-high : (s : Bool) (B k : ℕ) (x z : ℤ) → 1 ≤ B → k < B → InRange s B x → z ≡ val s (shr (bits B x) k (fill s (bits B x)))
    → x <ℤ (z *ℤ pos (2 ^ k) +ℤ pos (2 ^ k))
shr-high s B k x z h g f e =
    subst (λ (y : ℤ). x <ℤ (y *ℤ pos (2 ^ k) +ℤ pos (2 ^ k))) (sym (e ∙ val-shr s B k x h (omega arith) f)) (int_shr-high k x)

-- a number below 2^B that is shifted by k is below 2^C, where C and k make B
shifted-below : (B C k n : ℕ) → B ≡ C + k → n < 2 ^ B → int_shr (pos n) k <ℤ pos (2 ^ C)
shifted-below B C k n e l = let d = shr_lt C k (subst (λ (m : ℕ). n < 2 ^ m) e l) in omega (arith, ints)

int_shr-range : (s : Bool) (B k : ℕ) (x : ℤ) → k < B → InRange s B x → InRange s (B - k) (int_shr x k)
int_shr-range false B k (negsuc n) g f = let l = f.low in absurd (omega (arith, ints))
int_shr-range false B k (pos n) g f =
    let t = f.high in
    let p = pow_pos B in
    let d = shifted-below B (B - k) k n (omega arith) (omega (arith, ints)) in
    record { low = omega (arith, ints); high = omega (arith, ints) }
int_shr-range true B k (pos n) g f =
    let t = f.high in
    let p = pow_pos (B - 1) in
    let d = shifted-below (B - 1) (B - k - 1) k n (omega arith) (omega (arith, ints)) in
    record { low = omega (arith, ints); high = omega (arith, ints) }
int_shr-range true B k (negsuc n) g f =
    let t = f.low in
    let p = pow_pos (B - 1) in
    let d = shifted-below (B - 1) (B - k - 1) k n (omega arith) (omega (arith, ints)) in
    record { low = omega (arith, ints); high = omega (arith, ints) }

pub shr-range : (s : Bool) (B k : ℕ) (x z : ℤ) → 1 ≤ B → k < B → InRange s B x → z ≡ val s (shr (bits B x) k (fill s (bits B x))) → InRange s (B - k) z
shr-range s B k x z h g f e =
    subst (λ (y : ℤ). InRange s (B - k) y) (sym (e ∙ val-shr s B k x h (omega arith) f)) (int_shr-range s B k x g f)

pub shr-quotient : (s : Bool) (B k : ℕ) (x z : ℤ) → s ≡ false → 1 ≤ B → k < B → InRange s B x → z ≡ val s (shr (bits B x) k (fill s (bits B x)))
    → z ≡ int_div x (pos (2 ^ k))
shr-quotient true B k x z d h g f e = cc
shr-quotient false B k (negsuc n) z d h g f e = let l = f.low in absurd (omega (arith, ints))
shr-quotient false B k (pos n) z d h g f e = e ∙ val-shr false B k (pos n) h (omega arith) f
