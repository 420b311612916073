use Rattle.arbitrary_base.proofs.storages.Clamp.{overflows}
use Rattle.arbitrary_base.proofs.overflowing.sub.Goals as goal

pub sub-exact-requires : goal.sub-exact-requires
sub-exact-requires g c = c.requires

pub returns : goal.returns
returns g c = record {
  value = c.sub.ensures.value;
  result_in_range = c.sub.ensures.result_in_range;
  overflow = overflows g.T.Storage.number g.T.Storage.SIGNED c.args.bits _ _ _ c.sub-exact.ensures c.is_none.ensures;
}
