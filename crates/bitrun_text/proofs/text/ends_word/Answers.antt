use Rattle.std.proofs.Common.{◌≡◌, ◌<◌, ℕ, false, sym, arith}
use Rattle.std.proofs.lemmas.Bool.Decides.{nat_tests}
use Rattle.bitrun_text.specs.Text.{ends_word}
use Rattle.bitrun_text.proofs.text.ends_word.Goals as goal

pub returns-then-byte-gt32 : goal.returns-then-byte-gt32
returns-then-byte-gt32 c = sym (large c.args.byte c.if-byte-gt32.true)
  where
    large : (byte : ℕ) → 32 < byte → ends_word byte ≡ false
    large byte h = grind (arith, nat_tests)
