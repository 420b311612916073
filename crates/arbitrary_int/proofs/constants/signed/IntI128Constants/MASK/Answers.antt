use Rattle.std.proofs.Common.{rules}
use Rattle.arbitrary_int.proofs.EndBits.{below_sign}
use Rattle.arbitrary_int.proofs.constants.signed.IntI128Constants.MASK.Goals as goal

pub overflow_cast-result : goal.overflow_cast-result
overflow_cast-result g c = search (rules, below_sign g.row.BITS c.low_mask.result (search rules) c.if-this-eq128.false c.low_mask.ensures.value)

pub returns-else-this-eq128 : goal.returns-else-this-eq128
returns-else-this-eq128 g c = search (rules, below_sign g.row.BITS c.low_mask.result (search rules) c.if-this-eq128.false c.low_mask.ensures.value)
