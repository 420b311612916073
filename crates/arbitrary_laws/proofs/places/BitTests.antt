-- One bit that is set or cleared at a place j, and then tested at a place k, which may be j, by `(x >> k) & 1`
-- or by `x & (1 << k)`.
use Rattle.std.specs.Prelude.{◌≡◌, ◌≢◌, ℕ, ℤ, false, pos, ◌≤◌, ◌<◌, ◌*◌, ◌^◌}
use Rattle.std.proofs.Common.{ap, sym, ◌∙◌}
use Rattle.arbitrary_base.specs.Range.{InRange}
use Rattle.arbitrary_base.specs.Operation.{bitwise_and, bitwise_not, bitwise_or, shifted_left, shifted_right}
use Rattle.arbitrary_base.proofs.operations.BitsAndSums.{and-in_range, or-in_range}
use Rattle.arbitrary_laws.proofs.places.OtherBits.{gone-cleared, other_bit-cleared, other_bit-set}
use Rattle.arbitrary_laws.proofs.places.SingleBit.{low-of_right, tested}

module _ (B j k : ℕ) (x : ℤ) (some : 1 ≤ B) (there : j < B) (place : k < B) (apart : k ≢ j) (range : InRange false B x) where
  pub low-of_right_other_set : bitwise_and false B (shifted_right false B (bitwise_or false B x (shifted_left false B (pos 1) j)) k) (pos 1)
      ≡ bitwise_and false B (shifted_right false B x k) (pos 1)
  low-of_right_other_set =
      low-of_right B k _ some place (or-in_range false B x (shifted_left false B (pos 1) j) some) ∙ ap pos (other_bit-set B j x some there range k apart)
      ∙ sym (low-of_right B k x some place range)

  pub low-of_right_other_cleared : bitwise_and false B (shifted_right false B (bitwise_and false B x (bitwise_not false B (shifted_left false B (pos 1) j))) k) (pos 1)
      ≡ bitwise_and false B (shifted_right false B x k) (pos 1)
  low-of_right_other_cleared =
      low-of_right B k _ some place (and-in_range false B x (bitwise_not false B (shifted_left false B (pos 1) j)) some)
      ∙ ap pos (other_bit-cleared B j x some there range k apart) ∙ sym (low-of_right B k x some place range)

  pub masked-of_other_set : bitwise_and false B (bitwise_or false B x (shifted_left false B (pos 1) j)) (shifted_left false B (pos 1) k)
      ≡ bitwise_and false B x (shifted_left false B (pos 1) k)
  masked-of_other_set =
      tested B k _ some place (or-in_range false B x (shifted_left false B (pos 1) j) some)
      ∙ ap (λ (b : ℕ). pos (b * 2 ^ k)) (other_bit-set B j x some there range k apart) ∙ sym (tested B k x some place range)

  pub masked-of_other_cleared : bitwise_and false B (bitwise_and false B x (bitwise_not false B (shifted_left false B (pos 1) j))) (shifted_left false B (pos 1) k)
      ≡ bitwise_and false B x (shifted_left false B (pos 1) k)
  masked-of_other_cleared =
      tested B k _ some place (and-in_range false B x (bitwise_not false B (shifted_left false B (pos 1) j)) some)
      ∙ ap (λ (b : ℕ). pos (b * 2 ^ k)) (other_bit-cleared B j x some there range k apart) ∙ sym (tested B k x some place range)

pub low-of_right_cleared : (B k : ℕ) (x : ℤ) → 1 ≤ B → k < B → InRange false B x
    → bitwise_and false B (shifted_right false B (bitwise_and false B x (bitwise_not false B (shifted_left false B (pos 1) k))) k) (pos 1) ≡ pos 0
low-of_right_cleared B k x h g f =
    low-of_right B k _ h g (and-in_range false B x (bitwise_not false B (shifted_left false B (pos 1) k)) h) ∙ ap pos ((gone-cleared B k x h g f).1)
