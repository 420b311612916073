use Rattle.arbitrary_base.proofs.storages.Clamp.{overflows}
use Rattle.arbitrary_base.proofs.overflowing.add.Goals as goal

pub add-exact-requires : goal.add-exact-requires
add-exact-requires g c = c.requires

pub returns : goal.returns
returns g c = record {
  value = c.add.ensures.value;
  result_in_range = c.add.ensures.result_in_range;
  overflow = overflows g.T.Storage.number g.T.Storage.SIGNED c.args.bits _ _ _ c.add-exact.ensures c.is_none.ensures;
}
