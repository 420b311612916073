-- Why the bits of a storage of at most 64 bits fit in one word, and when they are the number itself.
use Rattle.std.specs.Prelude.{◌≡◌, ℕ, ℤ, Bool, true, false, pos, negsuc, ◌≤◌, ◌<◌, ◌≤ℤ◌, ◌^◌, unsigned_abs}
use Rattle.std.proofs.Common.{arith, lt_of_lt_of_le}
use Rattle.std.proofs.lemmas.Int.{ints}
use Rattle.arbitrary_base.specs.Range.{InRange}
use Rattle.arbitrary_base.specs.Residue.{residue}
use Rattle.arbitrary_base.proofs.modular.Truncation.{below_residue}
use Rattle.arbitrary_base.proofs.modular.Congruence.{pow_half, pow_le}
use Rattle.arbitrary_base.proofs.storages.Primitive.{residue-pos}
use Rattle.arbitrary_base.proofs.bit_lists.StdBitwise.{not_below_zero}

pub pattern-lt_word : (W p : ℕ) (x : ℤ) → p ≡ residue W x → W ≤ 64 → p < 2 ^ 64
pattern-lt_word W p x e h = lt_of_lt_of_le (below_residue W p x e) (pow_le W 64 h)

natural-lt : (s : Bool) (W n : ℕ) → 1 ≤ W → InRange s W (pos n) → n < 2 ^ W
natural-lt false W n h f = let high = f.high in omega (arith, ints)
natural-lt true W n h f = let high = f.high in let e = pow_half W h in omega (arith, ints)

-- the bits of a number from 0 up are the number
pub residue-natural : (s : Bool) (W : ℕ) (x : ℤ) → 1 ≤ W → InRange s W x → pos 0 ≤ℤ x → residue W x ≡ unsigned_abs x
residue-natural s W (pos n) h f l = residue-pos W n (natural-lt s W n h f)
residue-natural s W (negsuc n) h f l = absurd (omega (arith, ints))

-- a type that has no sign has no number below 0
pub ruleset naturals = (not_below_zero)

pub ruleset words = (pattern-lt_word, residue-natural)
