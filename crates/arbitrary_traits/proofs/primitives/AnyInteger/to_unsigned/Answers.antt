use Rattle.arbitrary_base.proofs.modular.ExactOrCongruent.{wrapped-congruent}
use Rattle.arbitrary_traits.proofs.primitives.AnyInteger.to_unsigned.Goals as goal

pub returns : goal.returns
returns g c =
    let e = rw (c.WIDTH.ensures, g.met.T.Unsigned.UnsignedStorage.unsigned_law) at c.cast.ensures.value in
    record { value = e; congruent = wrapped-congruent _ _ _ _ e; self_in_range = c.pattern-pattern.ensures.self_in_range }
