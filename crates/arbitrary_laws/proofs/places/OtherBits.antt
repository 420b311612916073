-- One bit that is set, cleared or toggled at a variable place k. The other bits do not change.
use Rattle.std.specs.Int.{bit_at}
use Rattle.std.specs.Int.Bits.{bit_and, bit_or, bit_xor}
use Rattle.std.specs.Prelude.{false, pos, unsigned_abs, ℕ, ℤ, ◌%◌, ◌*◌, ◌+◌, ◌-◌, ◌/◌, ◌<◌, ◌^◌, ◌≡◌, ◌≢◌, ◌≤◌}
use Rattle.std.proofs.Common.{ap, arith, refl, sym, ◌∙◌}
use Rattle.std.proofs.lemmas.Int.{ints}
use Rattle.std.proofs.lemmas.Nat.{and_assoc, and_comm, and_le_r, or_disjoint, pow_below, pow_pos}
use Rattle.std.proofs.lemmas.Nat.Bits.{and_pow, bit_at-lt, bit_at-pow_other, bit_at-pow_same, bit_at_and, bit_at_or, bit_at_xor}
use Rattle.arbitrary_base.specs.Operation.{bitwise_and, bitwise_not, bitwise_or, bitwise_xor, shifted_left}
use Rattle.arbitrary_base.specs.Range.{InRange}
use Rattle.arbitrary_base.proofs.bit_lists.StdBitwise.{xor-plain}
use Rattle.arbitrary_base.proofs.operations.BitsAndSums.{and-in_range}
use Rattle.arbitrary_base.proofs.operations.Definition.{xor-is}
use Rattle.arbitrary_base.proofs.storages.Primitive.{unsigned-in_range}
use Rattle.arbitrary_laws.proofs.masks.NumberUnderMask.{and-by_complement, and-of_cleared}
use Rattle.arbitrary_laws.proofs.places.SingleBit.{left-of_one, or-one_bit, tested}

module _ (B k : ℕ) (x : ℤ) (some : 1 ≤ B) (place : k < B) (range : InRange false B x) where
  abbrev n : ℕ
  n = unsigned_abs x

  abbrev one : ℤ
  one = shifted_left false B (pos 1) k

  set : unsigned_abs (bitwise_or false B x one) ≡ bit_or n (2 ^ k)
  set = ap unsigned_abs (or-one_bit B k x some place range)

  pub same_bit-set : unsigned_abs (bitwise_or false B x (shifted_left false B (pos 1) k)) / 2 ^ k % 2 ≡ 1
  same_bit-set = ap (λ (m : ℕ). bit_at m k) set ∙ bit_at_or n (2 ^ k) k ∙ omega (arith, bit_at-lt n k, bit_at-pow_same k)

  pub other_bit-set : (q : ℕ) → q ≢ k → unsigned_abs (bitwise_or false B x (shifted_left false B (pos 1) k)) / 2 ^ q % 2 ≡ unsigned_abs x / 2 ^ q % 2
  other_bit-set q d = ap (λ (m : ℕ). bit_at m q) set ∙ bit_at_or n (2 ^ k) q ∙ omega (arith, bit_at-pow_other k q d)

  turned : unsigned_abs (bitwise_xor false B x one) ≡ bit_xor n (2 ^ k)
  turned =
      let e = left-of_one B k place in
      let b = pow_below k B place in
      ap (λ (z : ℤ). unsigned_abs (bitwise_xor false B x z)) e
      ∙ ap unsigned_abs (xor-plain false B x (pos (2 ^ k)) _ some range (unsigned-in_range B (2 ^ k) b) (xor-is false B x (pos (2 ^ k))) range.low (omega (arith, ints)))

  pub same_bit-turned : unsigned_abs (bitwise_xor false B x (shifted_left false B (pos 1) k)) / 2 ^ k % 2 ≡ 1 - unsigned_abs x / 2 ^ k % 2
  same_bit-turned = ap (λ (m : ℕ). bit_at m k) turned ∙ bit_at_xor n (2 ^ k) k ∙ omega (arith, bit_at-lt n k, bit_at-pow_same k)

  pub other_bit-turned : (q : ℕ) → q ≢ k → unsigned_abs (bitwise_xor false B x (shifted_left false B (pos 1) k)) / 2 ^ q % 2 ≡ unsigned_abs x / 2 ^ q % 2
  other_bit-turned q d = ap (λ (m : ℕ). bit_at m q) turned ∙ bit_at_xor n (2 ^ k) q ∙ omega (arith, bit_at-lt n q, bit_at-pow_other k q d)

  abbrev rest : ℤ
  rest = bitwise_and false B x (bitwise_not false B one)

  within : InRange false B rest
  within = and-in_range false B x (bitwise_not false B one) some

  abbrev bit : ℕ
  bit = bit_at n k

  same_bit-cleared : unsigned_abs (bitwise_and false B x (bitwise_not false B (shifted_left false B (pos 1) k))) / 2 ^ k % 2 ≡ 0
  same_bit-cleared =
      let e = sym (tested B k rest some place within) ∙ and-of_cleared false B x one some in
      let p = pow_pos k in
      let l = bit_at-lt (unsigned_abs rest) k in
      zero_of (bit_at (unsigned_abs rest) k) (2 ^ k) l p (omega (arith, ints))
    where
      zero_of : (b m : ℕ) → b < 2 → 0 < m → b * m ≡ 0 → b ≡ 0
      zero_of b m l p e = grind arith

  -- what is taken away, and what is left, have no bit in common
  apart : bit_and (unsigned_abs rest) (2 ^ k) ≡ 0
  apart = and_pow (unsigned_abs rest) k ∙ ap (λ (b : ℕ). b * 2 ^ k) same_bit-cleared ∙ omega arith

  parts : unsigned_abs rest + bit * 2 ^ k ≡ n
  parts =
      let e = and-by_complement false B x one some range in
      let t = tested B k x some place range in
      let l = within.low in
      let f = range.low in
      omega (arith, ints)

  pub other_bit-cleared : (q : ℕ) → q ≢ k → unsigned_abs (bitwise_and false B x (bitwise_not false B (shifted_left false B (pos 1) k))) / 2 ^ q % 2 ≡ unsigned_abs x / 2 ^ q % 2
  other_bit-cleared q d =
      let c = unsigned_abs rest in
      let l : bit_at (bit * 2 ^ k) q ≡ 0 = ap (λ (m : ℕ). bit_at m q) (sym (and_pow n k)) ∙ bit_at_and n (2 ^ k) q ∙ omega (arith, bit_at-pow_other k q d) in
      let z : bit_and c (bit * 2 ^ k) ≡ 0 = ap (bit_and c) (sym (and_pow n k)) ∙ under n in
      let s : bit_or c (bit * 2 ^ k) ≡ n = or_disjoint c (bit * 2 ^ k) z ∙ parts in
      omega (arith, sym (bit_at_or c (bit * 2 ^ k) q) ∙ ap (λ (m : ℕ). bit_at m q) s)
    where
      nothing : (m : ℕ) → bit_and 0 m ≡ 0
      nothing m = omega (arith, and_comm 0 m, and_le_r m 0)

      under : (m : ℕ) → bit_and (unsigned_abs rest) (bit_and m (2 ^ k)) ≡ 0
      under m = ap (bit_and (unsigned_abs rest)) (and_comm m (2 ^ k)) ∙ sym (and_assoc m (unsigned_abs rest) (2 ^ k)) ∙ ap (λ (a : ℕ). bit_and a m) apart ∙ nothing m

  -- the first part says nothing: it shows the search the call
  pub gone-cleared : (bitwise_and false B x (bitwise_not false B (shifted_left false B (pos 1) k)) ≡ bitwise_and false B x (bitwise_not false B (shifted_left false B (pos 1) k)))
      × (unsigned_abs (bitwise_and false B x (bitwise_not false B (shifted_left false B (pos 1) k))) / 2 ^ k % 2 ≡ 0)
  gone-cleared = (refl, same_bit-cleared)
