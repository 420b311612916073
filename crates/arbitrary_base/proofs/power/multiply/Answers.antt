-- For `multiply` in src/power.rt, in its three cases: with a bit to spare by `checked::mul`, at 128 bits for
-- factors of 64 bits (Squaring.antt), and otherwise by `checked_mul`.
use Rattle.std.proofs.Common.{◌≡◌, ℕ, arith, sym, subst, refl, ◌∙◌}
use Rattle.arbitrary_base.specs.Range.{InRange}
use Rattle.std.specs.Prelude.{◌*ℤ◌, Some, SomeIff, option_map}
use Rattle.arbitrary_base.proofs.integers.Squaring.{half-product}
use Rattle.arbitrary_base.proofs.power.multiply.Goals as goal

pub returns-then-is_in_range-2-clause-product : goal.returns-then-is_in_range-2-clause-product
returns-then-is_in_range-2-clause-product g c =
    let all : g.T.Storage.WIDTH ≡ c.args.bits = omega (arith, c.WIDTH.ensures, c.if-bits-WIDTH.false, c.requires.storage) in
    subst (λ (w : ℕ). SomeIff (option_map g.T.Storage.number (Some c.wrapping_mul.result)) (InRange g.T.Storage.SIGNED w (g.T.Storage.number c.args.x *ℤ g.T.Storage.number c.args.y)) (g.T.Storage.number c.args.x *ℤ g.T.Storage.number c.args.y)) all
    (half-product g.T.Storage.number g.T.Storage.SIGNED g.T.Storage.WIDTH (g.T.Storage.number c.args.x) (g.T.Storage.number c.args.y) c.wrapping_mul.result
    (sym c.WIDTH-else-bits-WIDTH.ensures ∙ c.if-WIDTH-eq128.true) (c.if-is_in_range.ensures.0 refl) (c.if-is_in_range-2.ensures.0 refl) c.wrapping_mul.ensures)

pub returns-else-WIDTH-eq128-clause-product : goal.returns-else-WIDTH-eq128-clause-product
returns-else-WIDTH-eq128-clause-product g c =
    let all : g.T.Storage.WIDTH ≡ c.args.bits = omega (arith, c.WIDTH.ensures, c.if-bits-WIDTH.false, c.requires.storage) in
    subst (λ (w : ℕ). SomeIff (option_map g.T.Storage.number c.checked_mul.result) (InRange g.T.Storage.SIGNED w (g.T.Storage.number c.args.x *ℤ g.T.Storage.number c.args.y)) (g.T.Storage.number c.args.x *ℤ g.T.Storage.number c.args.y)) all c.checked_mul.ensures
