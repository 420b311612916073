use Rattle.std.proofs.Common.{arith}
use Rattle.bitrun_service.proofs.Decimals.{length-decimal, length-high}
use Rattle.bitrun_service.proofs.decimal.write_decimal.Goals as goal

pub write_digits-requires : goal.write_digits-requires
write_digits-requires c = (omega (arith, length-decimal c.args.number c.requires), omega (arith, c.told-buffer))

pub write_digits-requires-2 : goal.write_digits-requires-2
write_digits-requires-2 c = (length-high _ (omega (arith, c.requires)), omega (arith, c.write_low_digits.array_long))
