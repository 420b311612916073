use Rattle.std.proofs.Common.{◌∙◌, sym, ap, rules, ℕ, subst, ◌<◌, ◌^◌, ◌%◌, mod-lt}
use Rattle.std.proofs.Math.Nat.{mod-eq_of_lt}
use Rattle.std.proofs.lemmas.Nat.{pow_pos}
use Rattle.arbitrary_base.proofs.bytes.NumberOfBytes.{Borsh-wrap}
use Rattle.arbitrary_int.proofs.StreamBytes.{number-of_pattern}
use Rattle.arbitrary_int.proofs.borsh.AnyBorshDeserialize.from_borsh_bytes.Goals as goal

pub returns-then-masked-pattern-clause-bytes : goal.returns-then-masked-pattern-clause-bytes
returns-then-masked-pattern-clause-bytes g c =
    Borsh-wrap _ _ c.pattern_of-pattern.result _ _ (search rules) c.pattern_of-pattern.ensures.value c.pattern_of-pattern.ensures.bytes
    (subst (λ (k : ℕ). k < 2 ^ g.V.Numbered.BITS) (sym (c.masked.ensures ∙ ap (λ (b : ℕ). c.pattern_of-pattern.result % 2 ^ b) c.BITS-2.ensures) ∙ c.if-masked-pattern.true) (mod-lt c.pattern_of-pattern.result (pow_pos g.V.Numbered.BITS)))
    c.from_u128_bits.ensures.value

pub returns-then-masked-pattern-clause-value : goal.returns-then-masked-pattern-clause-value
returns-then-masked-pattern-clause-value g c =
    number-of_pattern g.V.Numbered.IS_SIGNED g.V.Numbered.BITS _ _ _ (g.met.V.Numbered.width_law c.requires).0 c.pattern_of-pattern.ensures.value (returns-then-masked-pattern-clause-bytes g c).0.below c.from_u128_bits.ensures.value

pub returns-else-masked-pattern-clause-bytes : goal.returns-else-masked-pattern-clause-bytes
returns-else-masked-pattern-clause-bytes g c k = c.if-masked-pattern.false
    (c.masked.ensures ∙ ap (λ (b : ℕ). c.pattern_of-pattern.result % 2 ^ b) c.BITS-2.ensures
    ∙ mod-eq_of_lt (subst (λ (n : ℕ). n < 2 ^ g.V.Numbered.BITS) (sym c.pattern_of-pattern.ensures.value) k.below))
