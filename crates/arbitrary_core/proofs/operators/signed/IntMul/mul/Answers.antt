use Rattle.std.specs.Prelude.{◌≡◌, ◌*ℤ◌}
use Rattle.std.proofs.Common.{refl}
use Rattle.arbitrary_base.specs.Residue.{wrap}
use Rattle.arbitrary_base.proofs.modular.ExactOrCongruent.{wrapped-exact}
use Rattle.arbitrary_core.proofs.Magnitude.{bound-of_product}
use Rattle.arbitrary_core.proofs.Results.{of_numbers}
use Rattle.arbitrary_core.proofs.operators.signed.IntMul.mul.Goals as goal

pub returns : goal.returns
returns g c =
    let fits = c.requires c.value.ensures.self_in_range c.value-2.ensures.self_in_range (bound-of_product c.args.self c.args.rhs _ refl) in
    let e : c.new.result ≡ c.args.self *ℤ c.args.rhs = wrapped-exact _ _ _ _ c.value.ensures.width.0 fits (of_numbers (λ x y. wrap g.T.Storage.SIGNED g.row.BITS (x *ℤ y)) c.value.ensures.number c.value-2.ensures.number c.mul.ensures.value c.new.ensures) in
    (e, bound-of_product c.args.self c.args.rhs _ e)
