use Rattle.std.proofs.Common.{arith, refl}
use Rattle.arbitrary_base.proofs.bit_lists.Count.{popcount-fit, popcount-plain}
use Rattle.arbitrary_base.proofs.bit_lists.TwosComplement.{bits-residue}
use Rattle.arbitrary_calls.proofs.counts.EndCounts.{no_ones-of_zero, popcount-of_highest}
use Rattle.arbitrary_calls.proofs.counts.OneRunBounds.{popcount-minus_one, zeros-some}
use Rattle.arbitrary_calls.proofs.counts.ZeroRunBounds.{popcount-some}
use Rattle.arbitrary_calls.proofs.calls.counts.CountCalls.count_ones.Goals as goal

pub returns : goal.returns
returns g c =
    let s = g.Self.Numbered.IS_SIGNED in
    let B = g.Self.Numbered.BITS in
    let x = g.Self.Numbered.number c.args.self in
    let h = c.low_bits.ensures.some in
    let f = c.low_bits.ensures.self_in_range in
    let e = rw (c.BITS.ensures, bits-residue B _ x c.low_bits.ensures.value) at c.count_ones.ensures in
    rw e (record {
      value = refl;
      plain = λ d. popcount-plain s B x f d;
      bound = popcount-fit B x;
      most = omega (arith, popcount-fit B x);
      none = λ d. no_ones-of_zero B x d;
      some = λ d. popcount-some s B x h f d;
      highest = λ d. popcount-of_highest B x d;
      minus_one = λ d. popcount-minus_one B x d;
      found = λ d n. omega (arith, zeros-some s B x h f d n);
    })
