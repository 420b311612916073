use Rattle.arbitrary_base.proofs.LawProof.{in_range-decides}
use Rattle.arbitrary_base.proofs.storages.Clamp.{clamp-fits, clamp-above, clamp-below}
use Rattle.arbitrary_base.proofs.laws.range_laws.Goals as goal

pub returns : goal.returns
returns c = record {
  test = in_range-decides;
  keeps = clamp-fits;
  above = clamp-above;
  below = clamp-below;
}
