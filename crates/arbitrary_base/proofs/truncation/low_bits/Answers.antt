use Rattle.std.proofs.Common.{arith, ◌∙◌}
use Rattle.arbitrary_base.proofs.modular.Truncation.{masked-residue, below_residue}
use Rattle.arbitrary_base.proofs.truncation.low_bits.Goals as goal

pub masked-requires : goal.masked-requires
masked-requires g c = omega (arith, c.requires.storage, g.met.T.Storage.width_law.1)

pub returns : goal.returns
returns g c =
    let e = c.masked.ensures ∙ masked-residue c.args.bits g.T.Storage.WIDTH _ _ c.requires.width c.requires.storage c.pattern.ensures.value in
    record { value = e; fits = below_residue c.args.bits _ _ e }
