use Rattle.std.proofs.Common.{rules}
use Rattle.arbitrary_core.proofs.NaturalTotals.{fits-with_natural, sum-of_natural}
use Rattle.arbitrary_core.proofs.totals.unsigned.UIntTotal.plus.Goals as goal

pub add-requires : goal.add-requires
add-requires g c =
    (search rules, λ _ h. fits-with_natural _ _ c.args.self c.args.item g.met.T.UnsignedStorage.unsigned_law c.requires h)

pub returns : goal.returns
returns g c = sum-of_natural _ _ _ _ _ g.met.T.UnsignedStorage.unsigned_law c.add.ensures.2 c.add.ensures.0
