use Rattle.std.proofs.Common.{arith, refl, true, ◌∙◌}
use Rattle.std.proofs.Math.Nat.{mod-eq_of_lt}
use Rattle.arbitrary_base.proofs.bit_lists.Count.{tail-fits}
use Rattle.arbitrary_base.proofs.bit_lists.TwosComplement.{bits-residue}
use Rattle.arbitrary_calls.proofs.counts.EndCounts.{tail-of_highest}
use Rattle.arbitrary_calls.proofs.counts.OneRunBounds.{leading_ones-found, leading_ones-minus_one, leading_ones-negative, leading_ones-none, leading_ones-some}
use Rattle.arbitrary_calls.proofs.counts.RunBesideCount.{tail_ones-below_ones}
use Rattle.arbitrary_calls.proofs.calls.counts.CountCalls.leading_ones.Goals as goal

pub returns : goal.returns
returns g c =
    let s = g.Self.Numbered.IS_SIGNED in
    let B = g.Self.Numbered.BITS in
    let x = g.Self.Numbered.number c.args.self in
    let h = c.low_bits.ensures.some in
    let f = c.low_bits.ensures.self_in_range in
    let p = rw c.BITS.ensures at c.masked.ensures in
    let e = rw (c.BITS-2.ensures, bits-residue B _ x (p ∙ mod-eq_of_lt c.low_bits.ensures.fits ∙ c.low_bits.ensures.value)) at c.leading_ones.ensures in
    rw e (record {
      value = refl;
      bound = tail-fits true B x;
      most = omega (arith, tail-fits true B x);
      highest = λ t. tail-of_highest B x t;
      minus_one = λ t. leading_ones-minus_one B x t;
      found = λ d t. leading_ones-found s B x h f d t;
      none = λ l t. leading_ones-none s B x h f l t;
      some = λ l. leading_ones-some s B x h f l;
      negative = λ l. leading_ones-negative s B x h f l;
      within = tail_ones-below_ones B x;
    })
