use Rattle.std.proofs.Common.{arith}
use Rattle.arbitrary_base.proofs.modular.Truncation.{wrap-residue}
use Rattle.arbitrary_base.proofs.truncation.cast.Goals as goal

pub returns-clause-value : goal.returns-clause-value
returns-clause-value g c =
    wrap-residue g.T.Storage.SIGNED c.args.bits _ _ _ c.requires.width (omega (arith, c.requires.storage, g.met.T.Storage.width_law.1)) c.to_u128_bits.ensures c.from_low_bits.ensures.value
