-- Two literals in a row under `& | ^` are one: `(x | 0x0F) | 0xF0` is `x | 0xFF`, and so are the parts of a number
-- under two masks.
use Rattle.std.specs.Int.Bits.{bit_and, bit_or, bit_xor}
use Rattle.std.specs.Prelude.{Bool, pos, ℕ, ℤ, ◌≡◌, ◌≤ℤ◌, ◌≤◌}
use Rattle.std.proofs.Common.{ap, arith, sym, ◌∙◌}
use Rattle.std.proofs.lemmas.Int.{ints}
use Rattle.arbitrary_base.specs.Operation.{bitwise_and, bitwise_or, bitwise_xor}
use Rattle.arbitrary_base.specs.Range.{hi}
use Rattle.arbitrary_base.proofs.bit_lists.StdBitwise.{and-plain, or-plain, xor-plain}
use Rattle.arbitrary_base.proofs.operations.Bitwise.{bitwise_and-commutes, bitwise_or-associates}
use Rattle.arbitrary_base.proofs.operations.Definition.{and-is, or-is, xor-is}
use Rattle.arbitrary_laws.proofs.bits.Identities.{and-distributes_or, and-distributes_xor, bitwise_and-associates, bitwise_xor-associates}
use Rattle.arbitrary_laws.proofs.masks.WrittenMask.{masked}

module _ (s : Bool) (B m n : ℕ) (h : 1 ≤ B) (f : pos m ≤ℤ hi s B) (g : pos n ≤ℤ hi s B) where
  pub and-numbers : bitwise_and s B (pos m) (pos n) ≡ pos (bit_and m n)
  and-numbers = and-plain s B (pos m) (pos n) _ h (masked s B m f) (masked s B n g) (and-is s B _ _) (omega (arith, ints)) (omega (arith, ints))

  or-numbers : bitwise_or s B (pos m) (pos n) ≡ pos (bit_or m n)
  or-numbers = or-plain s B (pos m) (pos n) _ h (masked s B m f) (masked s B n g) (or-is s B _ _) (omega (arith, ints)) (omega (arith, ints))

  xor-numbers : bitwise_xor s B (pos m) (pos n) ≡ pos (bit_xor m n)
  xor-numbers = xor-plain s B (pos m) (pos n) _ h (masked s B m f) (masked s B n g) (xor-is s B _ _) (omega (arith, ints)) (omega (arith, ints))

module _ (s : Bool) (B m n : ℕ) (x : ℤ) (h : 1 ≤ B) (f : pos m ≤ℤ hi s B) (g : pos n ≤ℤ hi s B) where
  pub and-written : bitwise_and s B (bitwise_and s B x (pos m)) (pos n) ≡ bitwise_and s B x (pos (bit_and m n))
  and-written = bitwise_and-associates s B x _ _ ∙ ap (bitwise_and s B x) (and-numbers s B m n h f g)

  pub or-written : bitwise_or s B (bitwise_or s B x (pos m)) (pos n) ≡ bitwise_or s B x (pos (bit_or m n))
  or-written = bitwise_or-associates s B x _ _ ∙ ap (bitwise_or s B x) (or-numbers s B m n h f g)

  pub xor-written : bitwise_xor s B (bitwise_xor s B x (pos m)) (pos n) ≡ bitwise_xor s B x (pos (bit_xor m n))
  xor-written = bitwise_xor-associates s B x _ _ ∙ ap (bitwise_xor s B x) (xor-numbers s B m n h f g)

  pub or-of_written_parts : bitwise_or s B (bitwise_and s B x (pos m)) (bitwise_and s B x (pos n)) ≡ bitwise_and s B x (pos (bit_or m n))
  or-of_written_parts = sym (and-distributes_or s B x _ _) ∙ ap (bitwise_and s B x) (or-numbers s B m n h f g)

  pub xor-of_written_parts : bitwise_xor s B (bitwise_and s B x (pos m)) (bitwise_and s B x (pos n)) ≡ bitwise_and s B x (pos (bit_xor m n))
  xor-of_written_parts = sym (and-distributes_xor s B x _ _) ∙ ap (bitwise_and s B x) (xor-numbers s B m n h f g)

  pub and-of_written_or : bitwise_and s B (bitwise_or s B x (pos m)) (pos n) ≡ bitwise_or s B (bitwise_and s B x (pos n)) (pos (bit_and m n))
  and-of_written_or =
      bitwise_and-commutes s B _ _ ∙ and-distributes_or s B (pos n) x (pos m)
      ∙ ap (λ (y : ℤ). bitwise_or s B y (bitwise_and s B (pos n) (pos m))) (bitwise_and-commutes s B _ _)
      ∙ ap (bitwise_or s B _) (bitwise_and-commutes s B _ _ ∙ and-numbers s B m n h f g)
