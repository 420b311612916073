use Rattle.std.proofs.Common.{◌≡◌, ◌<◌, ◌*◌, ◌^◌, ◌∙◌, rules, ap, subst, ℕ, length}
use Rattle.std.specs.Prelude.{pos}
use Rattle.arbitrary_base.specs.Residue.{wrap}
use Rattle.arbitrary_base.specs.ByteLists.{bytes_number}
use Rattle.arbitrary_base.proofs.bytes.NumberOfBytes.{bytes-wrap, wrap-number_of, unsigned-number_of}
use Rattle.arbitrary_base.proofs.modular.ExactOrCongruent.{wrapped-congruent}
use Rattle.arbitrary_int.proofs.byte_orders.ByteOrders.from_le_bytes.Goals as goal

pub returns-clause-bytes : goal.returns-clause-bytes
returns-clause-bytes g c = bytes-wrap _ _ _ _ _ g.met.Self.ByteOrders.width_law c.from_u128_bits.ensures.value ∙ search rules

pub returns-clause-number : goal.returns-clause-number
returns-clause-number g c = c.from_u128_bits.ensures.value ∙ ap (λ (p : ℕ). wrap g.Self.Numbered.IS_SIGNED g.Self.Numbered.BITS (pos p)) c.pattern_of.ensures.value

pub returns-clause-unsigned : goal.returns-clause-unsigned
returns-clause-unsigned g c u =
    let few : length c.args.list ≡ g.row.N = search rules in
    let small = subst (λ (p : ℕ). p < 2 ^ (8 * length c.args.list)) c.pattern_of.ensures.value c.pattern_of.ensures.fits in
    unsigned-number_of _ _ _ _ _ g.met.Self.ByteOrders.width_law (g.met.Self.Numbered.width_law g.met.Self.ByteOrders.valid_law).0 (returns-clause-number g c)
    (subst (λ (k : ℕ). bytes_number c.args.list < 2 ^ (8 * k)) few small) u

pub returns-clause-only : goal.returns-clause-only
returns-clause-only g c x f e =
    returns-clause-number g c ∙ wrap-number_of _ _ _ _ _ g.met.Self.ByteOrders.width_law (g.met.Self.Numbered.width_law g.met.Self.ByteOrders.valid_law).0 f e

pub returns-clause-signed : goal.returns-clause-signed
returns-clause-signed g c u = wrapped-congruent _ _ _ _ (returns-clause-number g c)
