-- More laws of numbers under a constant mask: a number under a mask of at least 0 needs no range of its own, and a
-- negative mask clears bits.
use Rattle.std.specs.Int.Bits.{bit_and}
use Rattle.std.specs.Prelude.{Bool, false, negsuc, pos, true, unsigned_abs, ℕ, ℤ, ◌%◌, ◌+ℤ◌, ◌-ℤ◌, ◌-◌, ◌<◌, ◌^◌, ◌≡◌, ◌≤ℤ◌, ◌≤◌}
use Rattle.std.proofs.Common.{ap, arith, lt_of_le_of_lt, mod-eq_of_lt, refl, sym, ◌∙◌}
use Rattle.std.proofs.lemmas.Grind.{bit_length}
use Rattle.std.proofs.lemmas.Int.{ints}
use Rattle.std.proofs.lemmas.Nat.{and_comm, and_le_r, and_mod, pow_pos}
use Rattle.arbitrary_base.specs.Operation.{bitwise_and, bitwise_not, bitwise_or, bitwise_xor}
use Rattle.arbitrary_base.specs.Range.{InRange, hi}
use Rattle.arbitrary_base.proofs.bit_lists.StdBitwise.{and-plain, not-signed}
use Rattle.arbitrary_base.proofs.operations.Definition.{and-is, not-is}
use Rattle.arbitrary_laws.proofs.masks.NumberUnderMask.{and-of_cleared, or-by_and, xor-by_and}

pub and-of_cleared_by_negative : (B n : ℕ) (x : ℤ) → 1 ≤ B → pos n ≤ℤ hi true B → bitwise_and true B (bitwise_and true B x (negsuc n)) (pos n) ≡ pos 0
and-of_cleared_by_negative B n x h g =
    let p = pow_pos (B - 1) in
    let r : InRange true B (pos n) = record { low = omega (arith, ints); high = g } in
    let e = not-signed true B (pos n) _ refl h r (not-is true B (pos n)) in
    let d : bitwise_not true B (pos n) ≡ negsuc n = omega (arith, ints) in
    ap (λ (y : ℤ). bitwise_and true B (bitwise_and true B x y) (pos n)) (sym d) ∙ and-of_cleared true B x (pos n) h

pub masked : (s : Bool) (B n : ℕ) → pos n ≤ℤ hi s B → InRange s B (pos n)
masked false B n g = record { low = omega (arith, ints); high = g }
masked true B n g = let p = pow_pos (B - 1) in record { low = omega (arith, ints); high = g }

pub or-by_mask : (s : Bool) (B n : ℕ) (x : ℤ) → 1 ≤ B → InRange s B x → pos n ≤ℤ hi s B → bitwise_or s B x (pos n) ≡ x +ℤ pos n -ℤ bitwise_and s B x (pos n)
or-by_mask s B n x h f g = or-by_and s B x (pos n) h f (masked s B n g)

pub xor-by_mask : (s : Bool) (B n : ℕ) (x : ℤ) → 1 ≤ B → InRange s B x → pos n ≤ℤ hi s B
    → bitwise_xor s B x (pos n) ≡ x +ℤ pos n -ℤ bitwise_and s B x (pos n) -ℤ bitwise_and s B x (pos n)
xor-by_mask s B n x h f g = xor-by_and s B x (pos n) h f (masked s B n g)

-- a mask below all bits of the number
pub and-none : (B n : ℕ) (x : ℤ) → 1 ≤ B → InRange false B x → pos n ≤ℤ hi false B → n < 2 ^ bit_length 128 n → unsigned_abs x % 2 ^ bit_length 128 n ≡ 0
    → bitwise_and false B x (pos n) ≡ pos 0
and-none B n x h f g l e =
    let k = bit_length 128 n in
    let N = unsigned_abs x in
    let small : bit_and N n % 2 ^ k ≡ bit_and N n = mod-eq_of_lt (lt_of_le_of_lt (and_le_r N n) l) in
    let zero : bit_and 0 (n % 2 ^ k) ≡ 0 = omega (arith, and_comm 0 (n % 2 ^ k), and_le_r (n % 2 ^ k) 0) in
    and-plain false B x (pos n) _ h f (masked false B n g) (and-is false B x (pos n)) f.low (omega (arith, ints))
    ∙ ap pos (sym small ∙ and_mod N n k ∙ ap (λ (m : ℕ). bit_and m (n % 2 ^ k)) e ∙ zero)
