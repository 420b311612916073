use Rattle.std.proofs.Common.{rules, subst}
use Rattle.std.specs.Prelude.{◌*ℤ◌, pos}
use Rattle.std.specs.Iterator.{Yields}
use Rattle.arbitrary_int.proofs.TotalSteps.{one_more, stopped, ended, not_begun}
use Rattle.arbitrary_int.proofs.totals.try_product.Goals as goal

pub loop-item-preserved : goal.loop-item-preserved
loop-item-preserved g c = one_more _ _ _ _ _ c.loop-item.yielded _ c.in-Some.item _ c.loop-item.invariant c.in-Some-checked_mul.ensures.exact

pub returns-in_err-total : goal.returns-in_err-total
returns-in_err-total g c = not_begun g.I.Iterator.next_gives g.V.Numbered.number g.V.Numbered.IS_SIGNED g.V.Numbered.BITS (λ a b. a *ℤ b) (pos 1) c.args.iter c.from_residual.result (search rules) c.in_err-total.ensures

pub returns-in-None-checked_mul : goal.returns-in-None-checked_mul
returns-in-None-checked_mul g c =
    stopped g.V.Numbered.number g.V.Numbered.IS_SIGNED g.V.Numbered.BITS (λ a b. a *ℤ b) (pos 1) c.loop-item.yielded (g.V.Numbered.number c.loop-item.total) g.I.Iterator.next_gives c.args.iter c.loop-item.item-iterator c.next.new.self c.in-Some.item
    (subst (λ i. Yields g.I.Iterator.next_gives i c.loop-item.yielded c.loop-item.item-iterator) c.into_iter-item-iterator.ensures.into_iter_gives c.loop-item.yielded_by) c.in-Some.ensures.steps c.loop-item.invariant.1 c.in-None-checked_mul.ensures.exact

pub returns : goal.returns
returns g c =
    ended g.V.Numbered.number g.V.Numbered.IS_SIGNED g.V.Numbered.BITS (λ a b. a *ℤ b) (pos 1) c.loop-item.yielded (g.V.Numbered.number c.loop-item.total) g.I.Iterator.next_gives c.args.iter c.loop-item.item-iterator c.next.new.self
    (subst (λ i. Yields g.I.Iterator.next_gives i c.loop-item.yielded c.loop-item.item-iterator) c.into_iter-item-iterator.ensures.into_iter_gives c.loop-item.yielded_by) c.in-None.ensures.steps c.loop-item.invariant
