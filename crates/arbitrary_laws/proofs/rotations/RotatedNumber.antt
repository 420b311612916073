-- A rotation of a number of at least 0 as a quotient and a remainder: bits that leave at one end come back at
-- the other.
use Rattle.std.specs.Prelude.{Bool, List, false, length, pos, unsigned_abs, ℕ, ℤ, ◌%◌, ◌*◌, ◌+◌, ◌-◌, ◌/◌, ◌^◌, ◌≡◌, ◌≤◌}
use Rattle.std.proofs.Common.{ap, arith, refl, subst, sym, ◌∙◌}
use Rattle.arbitrary_base.specs.BitList.{bits, num, val}
use Rattle.arbitrary_base.specs.Operation.{rotated_left, rotated_right}
use Rattle.arbitrary_base.specs.Range.{InRange}
use Rattle.arbitrary_base.proofs.bit_lists.Movement.{length-rotl, length-rotr, num-rotl, num-rotr}
use Rattle.arbitrary_base.proofs.bit_lists.StdBitwise.{num-plain}
use Rattle.arbitrary_base.proofs.bit_lists.TwosComplement.{val-num}
use Rattle.arbitrary_base.proofs.bit_lists.UnsignedNumber.{length-bits}
use Rattle.arbitrary_base.proofs.modular.Residue.{wrap-in_range}
use Rattle.arbitrary_base.proofs.operations.BitsAndSums.{plain}
use Rattle.arbitrary_base.proofs.operations.Definition.{bits-rotl, rotl-is, rotr-is}
use Rattle.arbitrary_laws.proofs.rotations.RotatedLists.{bits-rotr}

value-in_range : (s : Bool) (B : ℕ) (l : List Bool) (x : ℤ) → 1 ≤ B → length l ≡ B → x ≡ val s l → InRange s B x
value-in_range s B l x h n e = subst (InRange s B) (sym (e ∙ val-num s B l n)) (wrap-in_range s B _ h)

pub rotated_left-number : (B k : ℕ) (x : ℤ) → 1 ≤ B → k ≤ B → InRange false B x
    → rotated_left false B x k ≡ pos (unsigned_abs x / 2 ^ (B - k) + unsigned_abs x * 2 ^ k % 2 ^ B)
rotated_left-number B k x h g f =
    let n = length-bits B x in
    let m = num-plain false B x f f.low in
    plain B _ (value-in_range false B _ _ h (length-rotl (bits B x) k ∙ n) (rotl-is false B x k))
    ∙ ap pos (ap num (bits-rotl false B x k) ∙ num-rotl (bits B x) k (omega arith) ∙ rw (n, m) refl)

pub rotated_right-number : (B k : ℕ) (x : ℤ) → 1 ≤ B → k ≤ B → InRange false B x
    → rotated_right false B x k ≡ pos (unsigned_abs x / 2 ^ k + unsigned_abs x * 2 ^ (B - k) % 2 ^ B)
rotated_right-number B k x h g f =
    let n = length-bits B x in
    let m = num-plain false B x f f.low in
    plain B _ (value-in_range false B _ _ h (length-rotr (bits B x) k ∙ n) (rotr-is false B x k))
    ∙ ap pos (ap num (bits-rotr false B x k) ∙ num-rotr (bits B x) k (omega arith) ∙ rw (n, m) refl)
