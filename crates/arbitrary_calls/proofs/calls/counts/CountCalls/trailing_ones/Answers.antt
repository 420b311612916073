use Rattle.std.proofs.Common.{arith, refl, true}
use Rattle.arbitrary_base.proofs.bit_lists.Count.{front-fits}
use Rattle.arbitrary_base.proofs.bit_lists.TwosComplement.{bits-residue}
use Rattle.arbitrary_calls.proofs.counts.EndCounts.{front-of_highest}
use Rattle.arbitrary_calls.proofs.counts.OneRunBounds.{trailing_ones-even, trailing_ones-found, trailing_ones-lowest_clear, trailing_ones-lowest_set, trailing_ones-minus_one, trailing_ones-odd}
use Rattle.arbitrary_calls.proofs.counts.RunBesideCount.{front_ones-below_ones}
use Rattle.arbitrary_calls.proofs.calls.counts.CountCalls.trailing_ones.Goals as goal

pub returns : goal.returns
returns g c =
    let s = g.Self.Numbered.IS_SIGNED in
    let B = g.Self.Numbered.BITS in
    let x = g.Self.Numbered.number c.args.self in
    let h = c.low_bits.ensures.some in
    let f = c.low_bits.ensures.self_in_range in
    let e = rw (c.BITS.ensures, bits-residue B _ x c.low_bits.ensures.value) at c.trailing_ones.ensures in
    rw e (record {
      value = refl;
      bound = front-fits true B x;
      most = omega (arith, front-fits true B x);
      highest = λ d. front-of_highest B x d;
      minus_one = λ d. trailing_ones-minus_one B x d;
      found = λ d n. trailing_ones-found s B x h f d n;
      none = λ d. trailing_ones-even B x h d;
      some = λ d. trailing_ones-odd B x h d;
      lowest = (λ z. grind (arith, trailing_ones-lowest_set B x h), λ d. trailing_ones-lowest_clear B x h d);
      within = front_ones-below_ones B x;
    })
