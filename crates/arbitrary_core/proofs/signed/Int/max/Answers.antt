use Rattle.std.proofs.Common.{refl, inl, inr}
use Rattle.arbitrary_core.proofs.EndOfTwo.{lesser, not-lesser, same-end}
use Rattle.arbitrary_core.proofs.signed.Int.max.Goals as goal

pub returns-then-lt : goal.returns-then-lt
returns-then-lt g c =
    let less = lesser _ _ _ c.lt.ensures c.if-lt.true in
    record { at_least_self = less.1; at_least_other = same-end _; either = inr refl }

pub returns-else-lt : goal.returns-else-lt
returns-else-lt g c =
    record { at_least_self = same-end _; at_least_other = not-lesser _ _ _ c.lt.ensures c.if-lt.false; either = inl refl }
