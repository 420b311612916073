use Rattle.std.proofs.Common.{arith, sym, ◌∙◌, ◌<◌}
use Rattle.arbitrary_base.proofs.storages.CheckedSum.{same_cases, sub-checks, sub-refuses_test}
use Rattle.arbitrary_base.proofs.storages.SpareBit.{difference-determines, flag-exact, flag-none, none-out_of_range}
use Rattle.arbitrary_base.proofs.storages.SignTest.{sub-across}
use Rattle.arbitrary_base.proofs.checked.sub.Goals as goal

pub returns-then-is_across_zero : goal.returns-then-is_across_zero
returns-then-is_across_zero g c =
    flag-none g.T.Storage.SIGNED c.args.bits _ _
    (sub-across g.T.Storage.SIGNED c.args.bits _ _ _ _ (sym c.SIGNED.ensures ∙ c.if-SIGNED.true) c.requires.width c.requires.x_in_range c.requires.y_in_range c.sub-difference.ensures.value c.is_across_zero.ensures)
    c.if-is_across_zero.true

pub returns-else-is_across_zero : goal.returns-else-is_across_zero
returns-else-is_across_zero g c =
    flag-exact g.T.Storage.SIGNED c.args.bits _ _ _ c.requires.width c.sub-difference.ensures.value
    (sub-across g.T.Storage.SIGNED c.args.bits _ _ _ _ (sym c.SIGNED.ensures ∙ c.if-SIGNED.true) c.requires.width c.requires.x_in_range c.requires.y_in_range c.sub-difference.ensures.value c.is_across_zero.ensures)
    c.if-is_across_zero.false

pub returns-then-is_within : goal.returns-then-is_within
returns-then-is_within g c =
    let room : c.args.bits < g.T.Storage.WIDTH = omega (arith, c.WIDTH.ensures, c.if-bits-WIDTH.true) in
    (difference-determines g.T.Storage.SIGNED c.args.bits g.T.Storage.WIDTH _ _ _ c.requires.width room c.requires.x_in_range c.requires.y_in_range c.wrapping_sub-difference.ensures).0
    (c.is_within.ensures.0 c.if-is_within.true)

pub returns-else-is_within : goal.returns-else-is_within
returns-else-is_within g c =
    let room : c.args.bits < g.T.Storage.WIDTH = omega (arith, c.WIDTH.ensures, c.if-bits-WIDTH.true) in
    none-out_of_range g.T.Storage.SIGNED c.args.bits _ _ _
    (difference-determines g.T.Storage.SIGNED c.args.bits g.T.Storage.WIDTH _ _ _ c.requires.width room c.requires.x_in_range c.requires.y_in_range c.wrapping_sub-difference.ensures)
    c.is_within.ensures c.if-is_within.false

pub returns-then-is_below-is_below_zero : goal.returns-then-is_below-is_below_zero
returns-then-is_below-is_below_zero g c =
    sub-checks g.T.Storage.SIGNED c.args.bits _ _ _ c.requires.width c.requires.x_in_range c.requires.y_in_range c.sub-difference-else-bits-WIDTH.ensures.value
    (same_cases _ _ _ _ _ c.is_below.ensures c.is_below_zero.ensures c.if-is_below-is_below_zero.true)

pub returns-else-is_below-is_below_zero : goal.returns-else-is_below-is_below_zero
returns-else-is_below-is_below_zero g c =
    sub-refuses_test g.T.Storage.SIGNED c.args.bits _ _ _ _ _ c.requires.width c.sub-difference-else-bits-WIDTH.ensures.value
    c.is_below.ensures c.is_below_zero.ensures c.if-is_below-is_below_zero.false
