-- The counts of the ends of a type: of 0, of -1, and of the greatest unsigned number; and 0 as the number
-- without ones.
use Rattle.std.specs.Bool.{beq}
use Rattle.std.specs.List.{count_by, prefix_len, suffix_len}
use Rattle.std.specs.Prelude.{Bool, List, [], false, length, negsuc, pos, replicate, true, ℕ, ℤ, ◌-ℤ◌, ◌^◌, ◌∷◌, ◌≡◌, ◌≤◌}
use Rattle.std.proofs.Common.{ap, arith, refl, sym, ◌∙◌}
use Rattle.arbitrary_base.specs.BitList.{bits, val}
use Rattle.arbitrary_base.specs.Range.{InRange}
use Rattle.arbitrary_base.proofs.bit_lists.Count.{popcount-cons}
use Rattle.arbitrary_base.proofs.bit_lists.Rotation.{reverse-alike}
use Rattle.arbitrary_base.proofs.bit_lists.UnsignedNumber.{length-bits}
use Rattle.arbitrary_base.proofs.operations.Definition.{bits-highest, bits-minus_one, bits-zero, of-bits, zero-is}
use Rattle.arbitrary_base.proofs.operations.PopulationAndRuns.{front-alike, popcount-alike, popcount-of_zero}

-- a list with no one is all zeros
no_ones : (l : List Bool) → count_by (λ b. b) l ≡ 0 → l ≡ replicate (length l) false
no_ones [] e = refl
no_ones (true ∷ l) e = let f = popcount-cons true l in absurd (omega arith)
no_ones (false ∷ l) e = let f = popcount-cons false l in ap (λ (m : List Bool). false ∷ m) (no_ones l (omega arith))

pub popcount-of_highest : (B : ℕ) (x : ℤ) → x ≡ pos (2 ^ B) -ℤ pos 1 → count_by (λ b. b) (bits B x) ≡ B
popcount-of_highest B x e = ap (λ (z : ℤ). count_by (λ b. b) (bits B z)) e ∙ ap (count_by (λ b. b)) (bits-highest B) ∙ popcount-alike B

pub popcount-of_minus_one : (B : ℕ) → count_by (λ b. b) (bits B (negsuc 0)) ≡ B
popcount-of_minus_one B = ap (count_by (λ b. b)) (bits-minus_one B) ∙ popcount-alike B

pub no_ones-of_zero : (B : ℕ) (x : ℤ) → x ≡ pos 0 → count_by (λ b. b) (bits B x) ≡ 0
no_ones-of_zero B x e = ap (λ (z : ℤ). count_by (λ b. b) (bits B z)) e ∙ popcount-of_zero B

pub zero-of_no_ones : (s : Bool) (B : ℕ) (x : ℤ) → 1 ≤ B → InRange s B x → count_by (λ b. b) (bits B x) ≡ 0 → x ≡ pos 0
zero-of_no_ones s B x h f e =
    of-bits s B x h f ∙ ap (val s) (no_ones (bits B x) e ∙ ap (λ (n : ℕ). replicate n false) (length-bits B x)) ∙ sym (zero-is s B h)

pub front-of_zero : (B : ℕ) → prefix_len (beq false) (bits B (pos 0)) ≡ B
front-of_zero B = ap (prefix_len (beq false)) (bits-zero B) ∙ front-alike false B

pub front-of_highest : (B : ℕ) (x : ℤ) → x ≡ pos (2 ^ B) -ℤ pos 1 → prefix_len (beq true) (bits B x) ≡ B
front-of_highest B x e = ap (λ (z : ℤ). prefix_len (beq true) (bits B z)) e ∙ ap (prefix_len (beq true)) (bits-highest B) ∙ front-alike true B

pub front-of_minus_one : (B : ℕ) → prefix_len (beq true) (bits B (negsuc 0)) ≡ B
front-of_minus_one B = ap (prefix_len (beq true)) (bits-minus_one B) ∙ front-alike true B

pub tail-of_zero : (B : ℕ) → suffix_len (beq false) (bits B (pos 0)) ≡ B
tail-of_zero B = ap (suffix_len (beq false)) (bits-zero B) ∙ ap (prefix_len (beq false)) (reverse-alike B false) ∙ front-alike false B

pub tail-of_highest : (B : ℕ) (x : ℤ) → x ≡ pos (2 ^ B) -ℤ pos 1 → suffix_len (beq true) (bits B x) ≡ B
tail-of_highest B x e = ap (λ (z : ℤ). suffix_len (beq true) (bits B z)) e ∙ ap (suffix_len (beq true)) (bits-highest B) ∙ ap (prefix_len (beq true)) (reverse-alike B true) ∙ front-alike true B

pub tail-of_minus_one : (B : ℕ) → suffix_len (beq true) (bits B (negsuc 0)) ≡ B
tail-of_minus_one B = ap (suffix_len (beq true)) (bits-minus_one B) ∙ ap (prefix_len (beq true)) (reverse-alike B true) ∙ front-alike true B
