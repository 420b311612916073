use Rattle.arbitrary_base.proofs.modular.Truncation.{to_u128_bits-is}
use Rattle.arbitrary_base.proofs.truncation.to_u128_bits.Goals as goal

pub returns : goal.returns
returns g c =
    to_u128_bits-is g.T.Storage.SIGNED c.SIGNED.result g.T.Storage.WIDTH c.WIDTH.result c.pattern.result c.extend.result (g.T.Storage.number c.args.x)
    (g.met.T.Storage.width_law.0) c.pattern.ensures.self_in_range c.SIGNED.ensures c.WIDTH.ensures c.pattern.ensures.value c.extend.type_inv c.extend.ensures
