use Rattle.std.proofs.Common.{rules}
use Rattle.arbitrary_core.proofs.NaturalTotals.{fits-by_natural}
use Rattle.arbitrary_core.proofs.totals.unsigned.UIntTotal.times.Goals as goal

pub mul-requires : goal.mul-requires
mul-requires g c =
    (search rules, λ _ h. fits-by_natural _ _ c.args.self c.args.item g.met.T.UnsignedStorage.unsigned_law c.requires h)
