use Rattle.std.proofs.Common.{refl, inl, inr}
use Rattle.arbitrary_core.proofs.EndOfTwo.{lesser, not-lesser, same-end}
use Rattle.arbitrary_core.proofs.signed.Int.clamp.Goals as goal

pub returns-then-lt : goal.returns-then-lt
returns-then-lt g c =
    let less = lesser _ _ _ c.lt.ensures c.if-lt.true in
    record { least = same-end _; greatest = c.requires.order; nearest = inl (less.0, refl) }

pub returns-then-lt-2 : goal.returns-then-lt-2
returns-then-lt-2 g c =
    let less = lesser _ _ _ c.lt-else-lt.ensures c.if-lt-2.true in
    record { least = c.requires.order; greatest = same-end _; nearest = inr (inl (less.0, refl)) }

pub returns-else-lt-2 : goal.returns-else-lt-2
returns-else-lt-2 g c = record {
  least = not-lesser _ _ _ c.lt.ensures c.if-lt.false;
  greatest = not-lesser _ _ _ c.lt-else-lt.ensures c.if-lt-2.false;
  nearest = inr (inr refl);
}
