use Rattle.arbitrary_base.proofs.storages.Clamp.{overflows}
use Rattle.arbitrary_base.proofs.overflowing.div.Goals as goal

pub div_by_nonzero-exact-requires : goal.div_by_nonzero-exact-requires
div_by_nonzero-exact-requires g c = c.requires

pub returns : goal.returns
returns g c = record {
  value = c.div.ensures.value;
  result_in_range = c.div.ensures.result_in_range;
  overflow = overflows g.T.Storage.number g.T.Storage.SIGNED c.args.bits _ _ _ c.div_by_nonzero-exact.ensures c.is_none.ensures;
}
