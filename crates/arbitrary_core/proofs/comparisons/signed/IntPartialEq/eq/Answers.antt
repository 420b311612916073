use Rattle.arbitrary_core.proofs.StoredBits.{same-patterns}
use Rattle.arbitrary_core.proofs.comparisons.signed.IntPartialEq.eq.Goals as goal

pub returns : goal.returns
returns g c =
    same-patterns g.T.Storage.SIGNED g.row.BITS c.args.self.now c.args.other.now _ _ c.equal.result c.to_bits.ensures.width.0
    c.to_bits.ensures.self_in_range c.to_bits-2.ensures.self_in_range c.to_bits.ensures.value c.to_bits-2.ensures.value c.equal.ensures
