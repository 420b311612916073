use Rattle.std.specs.Int.{w64}
use Rattle.std.proofs.Common.{ℤ, subst, sym, to_z-of_z, ◌∙◌}
use Rattle.arbitrary_base.specs.Range.{InRange}
use Rattle.arbitrary_base.proofs.raised.number.Goals as goal

pub returns : goal.returns
returns g c =
    let e = to_z-of_z {w = w64} {z = c.number.result} (record { sfits = c.number.type_inv }) ∙ c.number.ensures.value in
    record { value = e ∙ c.raise.ensures; result_in_range = subst (λ (v : ℤ). InRange g.T.Storage.SIGNED g.T.Storage.WIDTH v) (sym e) c.number.ensures.x_in_range }
