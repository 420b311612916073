use Rattle.std.proofs.Common.{subst, sym, ap, ◌∙◌}
use Rattle.std.specs.Prelude.{[], ◌∷◌}
use Rattle.std.specs.Iterator.{Yields}
use Rattle.std.proofs.iter.Next.{fits_next}
use Rattle.std.proofs.lemmas.List.Sums.{fold-append}
use Rattle.arbitrary_core.proofs.totals.sum_from.Goals as goal

pub plus-total-requires : goal.plus-total-requires
plus-total-requires g c =
    fits_next g.I.Iterator.next_gives g.S.Total.sum g.S.Total.is_number c.args.first c.loop-item.total c.in-Some.item c.loop-item.yielded c.loop-item.invariant c.requires.fits
    (subst (λ i. Yields g.I.Iterator.next_gives i c.loop-item.yielded c.loop-item.item-iterator) c.into_iter-item-iterator.ensures.into_iter_gives c.loop-item.yielded_by) c.in-Some.ensures.steps

pub loop-item-preserved : goal.loop-item-preserved
loop-item-preserved g c =
    c.plus-total.ensures ∙ ap (λ k. g.S.Total.sum k c.in-Some.item) c.loop-item.invariant ∙ sym (fold-append g.S.Total.sum c.args.first c.loop-item.yielded (c.in-Some.item ∷ []))

pub returns : goal.returns
returns g c =
    let gave = subst (λ i. Yields g.I.Iterator.next_gives i c.loop-item.yielded c.loop-item.item-iterator) c.into_iter-item-iterator.ensures.into_iter_gives c.loop-item.yielded_by in
    (c.loop-item.yielded, (c.next.new.self, (c.loop-item.item-iterator, gave, c.in-None.ensures.steps)), c.loop-item.invariant)
