-- A word with the bits of another word under a mask, by `a ^ ((a ^ b) & m)`.
use Rattle.std.specs.Prelude.{◌≡◌, ℕ, suc, ◌+◌, ◌-◌}
use Rattle.std.specs.Int.Bits.{bit_and, bit_xor, xor_add_and}
use lib.Bits.{and_self}
use Rattle.std.proofs.Common.{sym, ap, ◌∙◌, arith}
use Rattle.std.proofs.lemmas.Nat.{and_assoc, xor_comm}
use Rattle.std.proofs.lemmas.Nat.Bits.{bit_at_and, bit_at_xor, same_from_bits}

module _ (n m : ℕ) where
  -- what a word has outside the mask
  abbrev outside : ℕ
  outside = bit_xor n (bit_and n m)

  outside-and_under : outside + bit_and n m ≡ n
  outside-and_under =
      let e : bit_and n (bit_and n m) ≡ bit_and n m = sym (and_assoc m n n) ∙ ap (λ (i : ℕ). bit_and i m) (and_self n) in
      omega (arith, xor_add_and n (bit_and n m), e)

module _ (a b m : ℕ) where
  abbrev merged : ℕ
  merged = bit_xor a (bit_and (bit_xor a b) m)

  merged-outside : outside merged m ≡ outside a m
  merged-outside =
      same_from_bits _ _ (λ i. omega (arith, bit_at_xor merged (bit_and merged m) i, bit_at_and merged m i, bit_at_xor a (bit_and (bit_xor a b) m) i, bit_at_and (bit_xor a b) m i, bit_at_xor a b i, bit_at_xor a (bit_and a m) i, bit_at_and a m i))

  merged-under : bit_and merged m ≡ bit_and b m
  merged-under =
      same_from_bits _ _ (λ i. omega (arith, bit_at_and merged m i, bit_at_xor a (bit_and (bit_xor a b) m) i, bit_at_and (bit_xor a b) m i, bit_at_xor a b i, bit_at_and b m i))

  merged-is : merged ≡ a - bit_and a m + bit_and b m
  merged-is = omega (arith, outside-and_under merged m, outside-and_under a m, merged-outside, merged-under)

-- `suc m` fits a mask that is written out, in each order of the operands
module _ (a b m : ℕ) where
  pub merged_parts : bit_xor a (bit_and (bit_xor a b) (suc m)) ≡ a - bit_and a (suc m) + bit_and b (suc m)
  merged_parts = merged-is a b (suc m)

  pub merged_parts_turned : bit_xor a (bit_and (bit_xor b a) (suc m)) ≡ a - bit_and a (suc m) + bit_and b (suc m)
  merged_parts_turned = ap (λ (i : ℕ). bit_xor a (bit_and i (suc m))) (xor_comm b a) ∙ merged_parts

  pub parts_merged : bit_xor (bit_and (bit_xor a b) (suc m)) a ≡ a - bit_and a (suc m) + bit_and b (suc m)
  parts_merged = xor_comm (bit_and (bit_xor a b) (suc m)) a ∙ merged_parts

  pub parts_turned_merged : bit_xor (bit_and (bit_xor b a) (suc m)) a ≡ a - bit_and a (suc m) + bit_and b (suc m)
  parts_turned_merged = xor_comm (bit_and (bit_xor b a) (suc m)) a ∙ merged_parts_turned

pub ruleset merges = (merged_parts, merged_parts_turned, parts_merged, parts_turned_merged)
