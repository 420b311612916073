-- The bytes of a literal, so that the calls on bytes compute.
use Rattle.std.specs.Prelude.{◌≡◌, ℕ, pos, negsuc, false, ◌*◌, ◌%◌, ◌^◌, ◌≤◌}
use Rattle.std.specs.Int.{bytes_low_first}
use Rattle.std.proofs.Common.{refl, sym, ◌∙◌, arith}
use Rattle.arbitrary_base.specs.ByteLists.{bytes}
use Rattle.arbitrary_base.specs.Residue.{residue}
use Rattle.arbitrary_base.proofs.bytes.NumberOfBytes.{bytes-wrap}
use Rattle.arbitrary_laws.proofs.written.KnownNumbers.{negative_digits, wrap-of_positive, wrap-of_negative, signed_wrap-of_positive, signed_wrap-of_negative}

pub bytes-of_positive : (n m : ℕ) → bytes n (pos m) ≡ bytes_low_first 0 n (m % 2 ^ (8 * n))
unfolding bytes residue
bytes-of_positive n m = refl

pub bytes-of_negative : (n m : ℕ) → 1 ≤ n → bytes n (negsuc m) ≡ bytes_low_first 0 n (negative_digits (8 * n) m % 2 ^ (8 * n))
bytes-of_negative n m h =
    sym (bytes-wrap false (8 * n) n (negsuc m) (pos (negative_digits (8 * n) m)) refl (sym (wrap-of_negative (8 * n) m (omega arith))))
    ∙ bytes-of_positive n (negative_digits (8 * n) m)

-- the bytes of numbers that are written out, in either order
pub ruleset known_bytes = (bytes-of_positive, bytes-of_negative, wrap-of_positive, wrap-of_negative, signed_wrap-of_positive, signed_wrap-of_negative)
