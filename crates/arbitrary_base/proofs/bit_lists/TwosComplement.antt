-- The bits of a number and its residue, and the number of a type that has given bits.
use Rattle.std.proofs.Common.{◌≡◌, ℕ, zero, suc, ◌/◌, ◌%◌, ◌^◌, ◌≤◌, Bool, not, eqb, List, ◌∷◌, length, ℤ, pos, negsuc, refl, sym, ap, ap₂, ◌∙◌, arith}
use Rattle.std.specs.Prelude.{map}
use Rattle.arbitrary_base.specs.Range.{InRange}
use Rattle.arbitrary_base.specs.Residue.{Congruent, residue, wrap}
use Rattle.arbitrary_base.specs.BitList.{bits, num, val}
use Rattle.arbitrary_base.proofs.modular.Residue.{residue-lt, residue-congruent, same-residue, wrap-same, wrap-congruent, wrap-of_in_range}
use Rattle.arbitrary_base.proofs.bit_lists.UnsignedNumber.{length-bits, num-bits, num-bits_small, bits-num_of, same_num, num-not}

-- the number after an even one is odd
odd-after : (n : ℕ) → eqb (suc n % 2) 1 ≡ not (eqb (n % 2) 1)
odd-after n = grind arith

-- the bits of -(n + 1) are those of n, each turned over
pub bits-negsuc : (B n : ℕ) → bits B (negsuc n) ≡ map not (bits B (pos n))
unfolding bits
bits-negsuc zero n = refl
bits-negsuc (suc k) n = ap₂ (λ (b : Bool) (l : List Bool). b ∷ l) (odd-after n) (bits-negsuc k (n / 2))

pub num-bits_residue : (B : ℕ) (x : ℤ) → num (bits B x) ≡ residue B x
unfolding residue
num-bits_residue B (pos n) = num-bits B n
num-bits_residue B (negsuc n) =
    rw (bits-negsuc B n) (omega (arith, num-not (bits B (pos n)), num-bits B n, ap (λ (x : ℕ). 2 ^ x) (length-bits B (pos n))))

-- only the residue counts
pub bits-residue : (B p : ℕ) (x : ℤ) → p ≡ residue B x → bits B (pos p) ≡ bits B x
bits-residue B p x e =
    same_num (bits B (pos p)) (bits B x) (length-bits B (pos p) ∙ sym (length-bits B x))
    (ap (λ (n : ℕ). num (bits B (pos n))) e ∙ num-bits_small B (residue B x) (residue-lt B x) ∙ sym (num-bits_residue B x))

-- congruent numbers have the same bits
pub bits-congruent : (B : ℕ) (x y : ℤ) → Congruent B x y → bits B x ≡ bits B y
bits-congruent B x y c = sym (bits-residue B (residue B x) x refl) ∙ bits-residue B (residue B x) y (same-residue B x y c)

pub bits-wrap : (s : Bool) (B : ℕ) (x : ℤ) → bits B (wrap s B x) ≡ bits B x
bits-wrap s B x = bits-congruent B _ x (wrap-congruent s B x)

-- the value of a list whose length is known
pub val-num : (s : Bool) (B : ℕ) (l : List Bool) → length l ≡ B → val s l ≡ wrap s B (pos (num l))
unfolding val
val-num s B l e = ap (λ (n : ℕ). wrap s n (pos (num l))) e

pub bits-val : (s : Bool) (B : ℕ) (l : List Bool) → length l ≡ B → bits B (val s l) ≡ l
bits-val s B l e = ap (bits B) (val-num s B l e) ∙ bits-wrap s B (pos (num l)) ∙ bits-num_of B l e

-- the value of a number's bits is the number, wrapped
pub val-bits : (s : Bool) (B : ℕ) (x : ℤ) → 1 ≤ B → val s (bits B x) ≡ wrap s B x
val-bits s B x h =
    val-num s B (bits B x) (length-bits B x)
    ∙ ap (λ (n : ℕ). wrap s B (pos n)) (num-bits_residue B x)
    ∙ wrap-same s B _ x (residue-congruent B x)

pub val-bits_in_range : (s : Bool) (B : ℕ) (x : ℤ) → 1 ≤ B → InRange s B x → val s (bits B x) ≡ x
val-bits_in_range s B x h f = val-bits s B x h ∙ wrap-of_in_range s B x h f
