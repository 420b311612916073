-- A field of `a | b` or `a ^ b` where one operand has only zeros is that field of the other. With a read of each
-- field of its own, no sum of all fields is needed, which in a `UInt` takes the search to its limits.
use Rattle.std.specs.Prelude.{◌≡◌, ℕ, ◌-◌, ◌/◌, ◌%◌, ◌^◌, ◌<◌}
use Rattle.std.specs.Int.Bits.{bit_and, bit_or, bit_xor, or_zero_l, or_zero_r}
use lib.Bits.{xor_zero_l, xor_zero_r}
use Rattle.std.proofs.Common.{sym, ap, ◌∙◌}
use Rattle.std.proofs.lemmas.Nat.{or_mod, or_shr, xor_mod, xor_shr}
use Rattle.arbitrary_laws.proofs.words.LowestOne.{power}
use Rattle.arbitrary_laws.proofs.words.WrittenMasks.{and_none, and_runs}

module _ (f : ℕ → ℕ → ℕ) (none_left : (b : ℕ) → f 0 b ≡ b) (none_right : (a : ℕ) → f a 0 ≡ a)
    (shr : (a b k : ℕ) → f a b / 2 ^ k ≡ f (a / 2 ^ k) (b / 2 ^ k)) (rem : (a b k : ℕ) → f a b % 2 ^ k ≡ f (a % 2 ^ k) (b % 2 ^ k)) where
  module _ (a b d : ℕ) (c : 0 < d) (p : bit_and d (d - 1) ≡ 0) where
    quotient : f a b / d ≡ f (a / d) (b / d)
    quotient =
        let h = power d c p in
        ap (λ (i : ℕ). f a b / i) h.1 ∙ shr a b h.0 ∙ sym (ap (λ (i : ℕ). f (a / i) (b / i)) h.1)

    remainder : f a b % d ≡ f (a % d) (b % d)
    remainder =
        let h = power d c p in
        ap (λ (i : ℕ). f a b % i) h.1 ∙ rem a b h.0 ∙ sym (ap (λ (i : ℕ). f (a % i) (b % i)) h.1)

    above_left : b / d ≡ 0 → f a b / d ≡ a / d
    above_left e = quotient ∙ ap (f (a / d)) e ∙ none_right (a / d)

    above_right : a / d ≡ 0 → f a b / d ≡ b / d
    above_right e = quotient ∙ ap (λ (i : ℕ). f i (b / d)) e ∙ none_left (b / d)

    below_left : b % d ≡ 0 → f a b % d ≡ a % d
    below_left e = remainder ∙ ap (f (a % d)) e ∙ none_right (a % d)

    below_right : a % d ≡ 0 → f a b % d ≡ b % d
    below_right e = remainder ∙ ap (λ (i : ℕ). f i (b % d)) e ∙ none_left (b % d)

  module _ (a b d e : ℕ) (c : 0 < d) (p : bit_and d (d - 1) ≡ 0) (g : 0 < e) (q : bit_and e (e - 1) ≡ 0) where
    inside_left : b / d % e ≡ 0 → f a b / d % e ≡ a / d % e
    inside_left z = ap (λ (i : ℕ). i % e) (quotient a b d c p) ∙ below_left (a / d) (b / d) e g q z

    inside_right : a / d % e ≡ 0 → f a b / d % e ≡ b / d % e
    inside_right z = ap (λ (i : ℕ). i % e) (quotient a b d c p) ∙ below_right (a / d) (b / d) e g q z

module _ (a b d : ℕ) (c : 0 < d) (p : bit_and d (d - 1) ≡ 0) where
  pub or_above_left : b / d ≡ 0 → bit_or a b / d ≡ a / d
  or_above_left = above_left bit_or or_zero_l or_zero_r or_shr or_mod a b d c p

  pub or_above_right : a / d ≡ 0 → bit_or a b / d ≡ b / d
  or_above_right = above_right bit_or or_zero_l or_zero_r or_shr or_mod a b d c p

  pub or_below_left : b % d ≡ 0 → bit_or a b % d ≡ a % d
  or_below_left = below_left bit_or or_zero_l or_zero_r or_shr or_mod a b d c p

  pub or_below_right : a % d ≡ 0 → bit_or a b % d ≡ b % d
  or_below_right = below_right bit_or or_zero_l or_zero_r or_shr or_mod a b d c p

  pub xor_above_left : b / d ≡ 0 → bit_xor a b / d ≡ a / d
  xor_above_left = above_left bit_xor xor_zero_l xor_zero_r xor_shr xor_mod a b d c p

  pub xor_above_right : a / d ≡ 0 → bit_xor a b / d ≡ b / d
  xor_above_right = above_right bit_xor xor_zero_l xor_zero_r xor_shr xor_mod a b d c p

  pub xor_below_left : b % d ≡ 0 → bit_xor a b % d ≡ a % d
  xor_below_left = below_left bit_xor xor_zero_l xor_zero_r xor_shr xor_mod a b d c p

  pub xor_below_right : a % d ≡ 0 → bit_xor a b % d ≡ b % d
  xor_below_right = below_right bit_xor xor_zero_l xor_zero_r xor_shr xor_mod a b d c p

module _ (a b d e : ℕ) (c : 0 < d) (p : bit_and d (d - 1) ≡ 0) (g : 0 < e) (q : bit_and e (e - 1) ≡ 0) where
  pub or_inside_left : b / d % e ≡ 0 → bit_or a b / d % e ≡ a / d % e
  or_inside_left = inside_left bit_or or_zero_l or_zero_r or_shr or_mod a b d e c p g q

  pub or_inside_right : a / d % e ≡ 0 → bit_or a b / d % e ≡ b / d % e
  or_inside_right = inside_right bit_or or_zero_l or_zero_r or_shr or_mod a b d e c p g q

  pub xor_inside_left : b / d % e ≡ 0 → bit_xor a b / d % e ≡ a / d % e
  xor_inside_left = inside_left bit_xor xor_zero_l xor_zero_r xor_shr xor_mod a b d e c p g q

  pub xor_inside_right : a / d % e ≡ 0 → bit_xor a b / d % e ≡ b / d % e
  xor_inside_right = inside_right bit_xor xor_zero_l xor_zero_r xor_shr xor_mod a b d e c p g q

-- a field of a word with the bits of one operand there, above that place, below it or between two
pub ruleset joined_reads = (or_above_left, or_above_right, or_below_left, or_below_right, or_inside_left, or_inside_right, xor_above_left, xor_above_right, xor_below_left, xor_below_right, xor_inside_left, xor_inside_right)

-- these under written masks, for a `UInt` with a field between two others
pub ruleset masked_reads = (and_runs, and_none, joined_reads)
