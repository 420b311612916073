use Rattle.std.proofs.Common.{arith, pos, refl}
use Rattle.arbitrary_base.proofs.bit_lists.Count.{popcount-fit, popcount-plain}
use Rattle.arbitrary_base.proofs.bit_lists.TwosComplement.{bits-residue}
use Rattle.arbitrary_calls.proofs.counts.EndCounts.{no_ones-of_zero, popcount-of_highest}
use Rattle.arbitrary_calls.proofs.counts.OneRunBounds.{popcount-minus_one, zeros-some}
use Rattle.arbitrary_calls.proofs.counts.ZeroRunBounds.{popcount-some}
use Rattle.arbitrary_calls.proofs.calls.counts.CountCalls.count_zeros.Goals as goal

pub overflow_sub-result : goal.overflow_sub-result
overflow_sub-result g c = omega (arith, popcount-fit c.BITS-2.result (pos c.low_bits-pattern.result))

pub returns : goal.returns
returns g c =
    let s = g.Self.Numbered.IS_SIGNED in
    let B = g.Self.Numbered.BITS in
    let x = g.Self.Numbered.number c.args.self in
    let h = c.low_bits-pattern.ensures.some in
    let f = c.low_bits-pattern.ensures.self_in_range in
    let e = rw (c.BITS-2.ensures, bits-residue B _ x c.low_bits-pattern.ensures.value) at c.count_ones.ensures in
    rw (c.BITS.ensures, e) (record {
      value = refl;
      plain = λ d. omega (arith, popcount-fit B x, popcount-plain s B x f d);
      bound = omega arith;
      most = omega arith;
      none = λ d. omega (arith, no_ones-of_zero B x d);
      found = λ d. omega (arith, popcount-fit B x, popcount-some s B x h f d);
      highest = λ d. omega (arith, popcount-of_highest B x d);
      minus_one = λ d. omega (arith, popcount-minus_one B x d);
      some = λ d n. zeros-some s B x h f d n;
    })
