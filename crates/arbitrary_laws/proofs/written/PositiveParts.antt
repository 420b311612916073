-- The laws of WrittenParts.antt for literals above 0. They do not apply to a number of a `u12`, some `pos n`: from
-- two such numbers the search would make a third, and so on. Wide sets have these laws in place of those, and laws
-- of 0.
use Rattle.std.specs.Prelude.{◌≡◌, ℕ, ℤ, suc, Bool, pos, ◌≤◌, ◌≤ℤ◌}
use Rattle.std.specs.Int.Bits.{bit_and, bit_or, bit_xor}
use Rattle.arbitrary_base.specs.Range.{hi}
use Rattle.arbitrary_base.specs.Operation.{bitwise_and, bitwise_or, bitwise_xor}
use Rattle.arbitrary_laws.proofs.written.WrittenParts.{and-of_written_or, and-written, or-of_written_parts, or-written, xor-of_written_parts, xor-written}

module _ (s : Bool) (B m n : ℕ) (x : ℤ) (h : 1 ≤ B) (f : pos (suc m) ≤ℤ hi s B) (g : pos (suc n) ≤ℤ hi s B) where
  pub and-positive : bitwise_and s B (bitwise_and s B x (pos (suc m))) (pos (suc n)) ≡ bitwise_and s B x (pos (bit_and (suc m) (suc n)))
  and-positive = and-written s B (suc m) (suc n) x h f g

  pub or-positive : bitwise_or s B (bitwise_or s B x (pos (suc m))) (pos (suc n)) ≡ bitwise_or s B x (pos (bit_or (suc m) (suc n)))
  or-positive = or-written s B (suc m) (suc n) x h f g

  pub xor-positive : bitwise_xor s B (bitwise_xor s B x (pos (suc m))) (pos (suc n)) ≡ bitwise_xor s B x (pos (bit_xor (suc m) (suc n)))
  xor-positive = xor-written s B (suc m) (suc n) x h f g

  pub or-of_positive_parts : bitwise_or s B (bitwise_and s B x (pos (suc m))) (bitwise_and s B x (pos (suc n))) ≡ bitwise_and s B x (pos (bit_or (suc m) (suc n)))
  or-of_positive_parts = or-of_written_parts s B (suc m) (suc n) x h f g

  pub xor-of_positive_parts : bitwise_xor s B (bitwise_and s B x (pos (suc m))) (bitwise_and s B x (pos (suc n))) ≡ bitwise_and s B x (pos (bit_xor (suc m) (suc n)))
  xor-of_positive_parts = xor-of_written_parts s B (suc m) (suc n) x h f g

  pub and-of_positive_or : bitwise_and s B (bitwise_or s B x (pos (suc m))) (pos (suc n)) ≡ bitwise_or s B (bitwise_and s B x (pos (suc n))) (pos (bit_and (suc m) (suc n)))
  and-of_positive_or = and-of_written_or s B (suc m) (suc n) x h f g

pub ruleset positive_parts = (and-positive, or-positive, xor-positive, or-of_positive_parts, xor-of_positive_parts, and-of_positive_or)
