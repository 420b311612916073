use Rattle.std.specs.Int.{w64}
use Rattle.std.proofs.Common.{arith, to_z-of_z, ◌∙◌}
use Rattle.arbitrary_base.specs.Residue.{wrap}
use Rattle.arbitrary_base.proofs.modular.Residue.{wrap-of_in_range}
use Rattle.arbitrary_base.proofs.small.from_i64.Goals as goal

pub cast-requires : goal.cast-requires
cast-requires g c = record { width = omega (arith, c.WIDTH.ensures, g.met.T.Storage.width_law.0); storage = omega (arith, c.WIDTH.ensures) }

pub returns : goal.returns
returns g c =
    c.cast.ensures.value ∙ (λ i. wrap g.T.Storage.SIGNED (c.WIDTH.ensures i) (to_z-of_z {w = w64} {z = c.args.x} c.ranges.x i))
    ∙ wrap-of_in_range g.T.Storage.SIGNED g.T.Storage.WIDTH c.args.x g.met.T.Storage.width_law.0 c.requires.x_in_range
