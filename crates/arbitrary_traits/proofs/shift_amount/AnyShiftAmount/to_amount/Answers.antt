use Rattle.std.proofs.Common.{arith}
use Rattle.std.proofs.lemmas.Int.{ints}
use Rattle.arbitrary_traits.proofs.Conversion.{amount-stays}
use Rattle.arbitrary_traits.proofs.shift_amount.AnyShiftAmount.to_amount.Goals as goal

pub returns : goal.returns
returns g c = amount-stays _ _ _ _ g.met.T.Storage.width_law.0 c.pattern.ensures.value c.pattern.ensures.self_in_range c.requires.low

pub overflow_cast-result : goal.overflow_cast-result
overflow_cast-result g c = let e = returns g c in let h = c.requires.high in record { fits = omega (arith, ints) }
