-- A number with at most one bit that is one, which is 0 or a power of two: by `x & (x - 1) == 0`, and by the
-- count. Callers name the set `at_most_one_bit`.
use Rattle.std.specs.List.{count_by}
use Rattle.std.specs.Prelude.{Bool, pos, suc, zero, ℕ, ℤ, ◌↔◌, ◌≡◌, ◌≢◌, ◌≤◌}
use Rattle.std.proofs.Common.{ap, arith, refl, sym, ◌∙◌}
use Rattle.std.proofs.lemmas.Bool.Decides.{Decides-int_eq}
use Rattle.arbitrary_base.specs.BitList.{bits}
use Rattle.arbitrary_base.specs.Operation.{bitwise_and, wrapped_difference}
use Rattle.arbitrary_base.specs.Range.{InRange}
use Rattle.arbitrary_base.proofs.operations.Bitwise.{bitwise_and-commutes}
use Rattle.arbitrary_calls.proofs.counts.EndCounts.{no_ones-of_zero, zero-of_no_ones}
use Rattle.arbitrary_laws.proofs.bits.Identities.{bitwise_and-zero}
use Rattle.arbitrary_laws.proofs.places.LowestBit.{and-of_difference, none-left}

pub none-left_of_at_most_one : (s : Bool) (B : ℕ) (x : ℤ) → 1 ≤ B → InRange s B x
    → (bitwise_and s B x (wrapped_difference s B x (pos 1)) ≡ pos 0) ↔ (count_by (λ b. b) (bits B x) ≤ 1)
none-left_of_at_most_one s B x h f = by-count (count_by (λ b. b) (bits B x)) refl
  where
    by-count : (n : ℕ) → n ≡ count_by (λ b. b) (bits B x)
        → (bitwise_and s B x (wrapped_difference s B x (pos 1)) ≡ pos 0) ↔ (count_by (λ b. b) (bits B x) ≤ 1)
    by-count zero e =
        let z = zero-of_no_ones s B x h f (sym e) in
        (λ _. omega arith, λ _. bitwise_and-commutes s B x _ ∙ ap (bitwise_and s B _) z ∙ bitwise_and-zero s B _ h)
    by-count (suc n) e =
        let d : x ≢ pos 0 = λ z. let g = no_ones-of_zero B x z in absurd (omega arith) in
        let i = none-left s B x h f d in
        (λ z. let o = i.0 z in omega arith, λ l. i.1 (omega arith))

pub ruleset at_most_one_bit = (Decides-int_eq, none-left_of_at_most_one, and-of_difference)
