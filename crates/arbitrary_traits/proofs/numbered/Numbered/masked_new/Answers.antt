use Rattle.std.specs.Prelude.{Bool}
use Rattle.std.proofs.Common.{subst}
use Rattle.arbitrary_base.specs.Range.{InRange}
use Rattle.arbitrary_base.proofs.modular.Congruence.{Congruent-narrower, Congruent-trans}
use Rattle.arbitrary_base.proofs.modular.ExactOrCongruent.{wrapped-congruent, wrapped-exact}
use Rattle.arbitrary_base.proofs.modular.Truncation.{InRange-of_unsigned, InRange-wider}
use Rattle.arbitrary_traits.proofs.Conversion.{low-of_unsigned, wrap-to_u128_bits}
use Rattle.arbitrary_traits.proofs.numbered.Numbered.masked_new.Goals as goal

pub returns : goal.returns
returns g c =
    let some = g.met.Self.Numbered.width_law c.requires in
    let e = wrap-to_u128_bits g.Self.Numbered.IS_SIGNED g.Self.Numbered.BITS _ _ _ some c.to_u128_bits.ensures.value c.from_u128_bits.ensures.value in
    let s = g.Self.Numbered.IS_SIGNED in
    let B = g.Self.Numbered.BITS in
    let A = g.T.Numbered.BITS in
    let x = g.T.Numbered.number c.args.value in
    let h = (g.met.T.Numbered.width_law c.to_u128_bits.ensures.width).0 in
    let f = c.to_u128_bits.ensures.self_in_range in
    let exact = λ (i : InRange s B x). wrapped-exact s B _ _ some.0 i e in
    let congruent = wrapped-congruent s B _ _ e in
    record {
      value = e;
      exact = exact;
      as_wide = λ d l. exact (InRange-wider s A B x h l (subst (λ (t : Bool). InRange t A x) d f));
      wider = λ d l. exact (InRange-of_unsigned s A B x h l (subst (λ (t : Bool). InRange t A x) d f));
      low = λ d t l. low-of_unsigned s g.T.Numbered.IS_SIGNED A B x _ some.0 f d t e;
      congruent = congruent;
      congruent_to = λ y l d. Congruent-trans B _ x y congruent (Congruent-narrower B A x y l d);
      value_in_range = c.to_u128_bits.ensures.self_in_range;
      width = c.to_u128_bits.ensures.width;
    }
