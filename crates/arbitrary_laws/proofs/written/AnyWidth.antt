-- Literals at a width that is not known: they are in range if the width has room for their digits. Callers name
-- the set `any_width`.
use Rattle.std.specs.Prelude.{false, negsuc, pos, suc, true, zero, ℕ, ◌-◌, ◌<◌, ◌^◌, ◌≤◌}
use Rattle.std.proofs.Common.{arith}
use Rattle.std.proofs.Math.Nat.{mod_self}
use Rattle.std.proofs.Math.Pow.{pow_mono}
use Rattle.std.proofs.lemmas.Grind.{bit_length}
use Rattle.std.proofs.lemmas.Int.{ints}
use Rattle.std.proofs.lemmas.Nat.{pow_pos}
use Rattle.arbitrary_base.specs.Range.{InRange}
use Rattle.arbitrary_calls.proofs.counts.RunsByDigits.{length-between}

below : (B m : ℕ) → m < 2 ^ 128 → bit_length 128 m ≤ B → m < 2 ^ B
below B zero g h = pow_pos B
below B (suc m) g h =
    let r = length-between 128 (suc m) (omega arith) g in
    let l = r.1 in
    let p = pow_mono h in
    omega arith

pub number-in_range : (B m : ℕ) → m < 2 ^ 128 → bit_length 128 m ≤ B → InRange false B (pos m)
number-in_range B m g h = let l = below B m g h in record { low = omega (arith, ints); high = omega (arith, ints) }

pub number-in_range_signed : (B m : ℕ) → m < 2 ^ 128 → bit_length 128 m < B → InRange true B (pos m)
number-in_range_signed B m g h =
    let l = below (B - 1) m g (omega arith) in
    let p = pow_pos (B - 1) in
    record { low = omega (arith, ints); high = omega (arith, ints) }

pub negative-in_range : (B m : ℕ) → m < 2 ^ 128 → bit_length 128 m < B → InRange true B (negsuc m)
negative-in_range B m g h =
    let l = below (B - 1) m g (omega arith) in
    let p = pow_pos (B - 1) in
    record { low = omega (arith, ints); high = omega (arith, ints) }

pub ruleset any_width = (number-in_range, number-in_range_signed, negative-in_range, mod_self)
