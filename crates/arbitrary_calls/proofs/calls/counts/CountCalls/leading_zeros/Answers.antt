use Rattle.std.proofs.Common.{arith, refl, false, ◌∙◌}
use Rattle.std.proofs.Math.Nat.{mod-eq_of_lt}
use Rattle.arbitrary_base.proofs.bit_lists.Count.{tail-fits}
use Rattle.arbitrary_base.proofs.bit_lists.StdBitwise.{not_below_zero}
use Rattle.arbitrary_base.proofs.bit_lists.TwosComplement.{bits-residue}
use Rattle.arbitrary_calls.proofs.counts.RunsByDigits.{leading-by_count}
use Rattle.arbitrary_calls.proofs.counts.ZeroRunBounds.{leading-none, leading-found, leading-negative, leading-low, leading-high, leading-set, leading-clear}
use Rattle.arbitrary_calls.proofs.counts.RunBesideCount.{tail_zeros-beside_ones}
use Rattle.arbitrary_calls.proofs.calls.counts.CountCalls.leading_zeros.Goals as goal

pub returns : goal.returns
returns g c =
    let s = g.Self.Numbered.IS_SIGNED in
    let B = g.Self.Numbered.BITS in
    let x = g.Self.Numbered.number c.args.self in
    let h = c.low_bits.ensures.some in
    let f = c.low_bits.ensures.self_in_range in
    let p = rw c.BITS.ensures at c.masked.ensures in
    let e = rw (c.BITS-2.ensures, bits-residue B _ x (p ∙ mod-eq_of_lt c.low_bits.ensures.fits ∙ c.low_bits.ensures.value)) at c.leading_zeros.ensures in
    rw e (record {
      value = refl;
      bound = tail-fits false B x;
      most = omega (arith, tail-fits false B x);
      none = λ z. leading-none s B x h f z;
      found = λ d. leading-found s B x h f d;
      negative = λ l. leading-negative s B x h f l;
      low = λ l. leading-low s B x h f l;
      high = λ l. leading-high s B x h f l;
      highest_set = λ l. leading-set s B x h f l;
      highest_clear = λ l u. leading-clear s B x h f l u;
      plain = λ d. leading-by_count s B x h c.low_bits.ensures.high f (not_below_zero s B x d f);
      natural = λ d l. leading-by_count s B x h c.low_bits.ensures.high f l;
      beside = tail_zeros-beside_ones B x;
    })
