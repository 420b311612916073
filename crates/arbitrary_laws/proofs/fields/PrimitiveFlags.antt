-- Flags of a primitive under a constant mask, such as `port | 0x20`: set, cleared, toggled and tested. The other
-- bits do not change.
use Rattle.std.specs.Prelude.{◌≡◌, ℕ, suc, ◌+◌, ◌-◌, ◌*◌, ◌/◌, ◌%◌, ◌^◌, ◌≤◌}
use Rattle.std.specs.Int.Bits.{bit_and, bit_or, bit_xor, or_add_and, xor_add_and}
use Rattle.std.proofs.Common.{ap, ◌∙◌, arith}
use Rattle.std.proofs.lemmas.Grind.{bit_length, low_zeros}
use Rattle.std.proofs.lemmas.Nat.Bits.{and_high}
use Rattle.arbitrary_laws.proofs.fields.JoinedWords.{lowest}

-- the ones of the mask are adjacent; one flag alone is such a mask
pub and_beside : (w m : ℕ) → low_zeros 128 (suc m) ≤ bit_length 128 (suc m) → suc m + 2 ^ low_zeros 128 (suc m) ≡ 2 ^ bit_length 128 (suc m)
    → bit_and w (suc m) ≡ w / 2 ^ low_zeros 128 (suc m) % 2 ^ (bit_length 128 (suc m) - low_zeros 128 (suc m)) * 2 ^ low_zeros 128 (suc m)
and_beside w m l e =
    let k = low_zeros 128 (suc m) in
    let j = bit_length 128 (suc m) - k in
    let top : bit_length 128 (suc m) ≡ j + k = omega arith in
    let run : suc m ≡ 2 ^ (j + k) - 2 ^ k = (let r : suc m ≡ 2 ^ bit_length 128 (suc m) - 2 ^ k = omega arith in r) ∙ ap (λ (i : ℕ). 2 ^ i - 2 ^ k) top in
    ap (bit_and w) run ∙ and_high w j k

-- The premise holds of each mask that is written out, and ends the attempt at a number that isn't: there the search would take it apart to find
-- a `suc m`, and come to its limit in words of several fields.
pub or_flags : (w m : ℕ) → 2 ^ 128 % lowest m ≡ 0 → bit_or w (suc m) + bit_and w (suc m) ≡ w + suc m
or_flags w m e = or_add_and w (suc m)

pub xor_flags : (w m : ℕ) → 2 ^ 128 % lowest m ≡ 0 → bit_xor w (suc m) + bit_and w (suc m) * 2 ≡ w + suc m
xor_flags w m e = xor_add_and w (suc m)
