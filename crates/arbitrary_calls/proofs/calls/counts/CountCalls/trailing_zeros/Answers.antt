use Rattle.std.proofs.Common.{arith, false, refl}
use Rattle.arbitrary_base.proofs.bit_lists.Count.{front-fits}
use Rattle.arbitrary_base.proofs.bit_lists.TwosComplement.{bits-residue}
use Rattle.arbitrary_calls.proofs.counts.OneRunBounds.{trailing_zeros-even, trailing_zeros-lowest_clear, trailing_zeros-lowest_set, trailing_zeros-odd}
use Rattle.arbitrary_calls.proofs.counts.RunBesideCount.{front_zeros-beside_ones}
use Rattle.arbitrary_calls.proofs.counts.RunsByDigits.{trailing-by_count}
use Rattle.arbitrary_calls.proofs.counts.ZeroRunBounds.{trailing-found, trailing-low, trailing-none, trailing-odd}
use Rattle.arbitrary_calls.proofs.calls.counts.CountCalls.trailing_zeros.Goals as goal

pub returns : goal.returns
returns g c =
    let s = g.Self.Numbered.IS_SIGNED in
    let B = g.Self.Numbered.BITS in
    let x = g.Self.Numbered.number c.args.self in
    let h = c.low_bits.ensures.some in
    let f = c.low_bits.ensures.self_in_range in
    let e = rw (c.BITS.ensures, bits-residue B _ x c.low_bits.ensures.value) at c.trailing_zeros.ensures in
    rw e (record {
      value = refl;
      bound = front-fits false B x;
      most = omega (arith, front-fits false B x);
      none = λ d. trailing-none s B x h f d;
      found = λ d. trailing-found s B x h f d;
      low = trailing-low s B x h f;
      one = λ d. trailing-odd s B x h f d;
      odd = λ d. trailing_zeros-odd B x h d;
      even = λ d. trailing_zeros-even B x h d;
      lowest = (λ z. grind (arith, trailing_zeros-lowest_clear B x h), λ d. trailing_zeros-lowest_set B x h d);
      beside = front_zeros-beside_ones B x;
      plain = trailing-by_count s B x h c.low_bits.ensures.high f;
    })
