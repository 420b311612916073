-- A number minus its quotient times the divisor, `x - (x / y) * y`, is the remainder, and its range is known. If
-- signed, the divisor is above 0. Callers name the set `remainders`.
use Rattle.std.specs.Prelude.{int_div, int_rem, neg_ℤ, negsuc, pos, suc, unsigned_abs, ℕ, ℤ, ◌%◌, ◌*ℤ◌, ◌*◌, ◌+ℤ◌, ◌+◌, ◌/◌, ◌<ℤ◌, ◌<◌, ◌≡◌, ◌≤ℤ◌, ◌≤◌}
use Rattle.std.proofs.Common.{arith, div-add-mod', mod-lt, refl}
use Rattle.std.proofs.Math.Nat.{mod-le}
use Rattle.std.proofs.lemmas.Bool.Decides.{Decides-int_eq}
use Rattle.std.proofs.lemmas.Int.{ints, quot-rem}
use Rattle.arbitrary_laws.proofs.orders.Order.{ge-tested, gt-tested, le-tested, lt-tested}

-- the first part says nothing: it shows the search the quotient
pub quotient-with_remainder : (a b : ℕ) → 0 < b → (a / b ≡ a / b) × (a / b * b ≤ a) × (a < a / b * b + b) × (a / b * b + a % b ≡ a)
quotient-with_remainder a b g =
    let d = div-add-mod' a b in
    let l = mod-lt a g in
    (refl, omega arith, omega arith, omega arith)

below : (x y : ℤ) → 0 < unsigned_abs y → (neg_ℤ (pos (unsigned_abs y)) <ℤ int_rem x y) × (int_rem x y <ℤ pos (unsigned_abs y))
below (pos a) y h = let l = mod-lt a h in (omega (arith, ints), omega (arith, ints))
below (negsuc a) y h = let l = mod-lt (suc a) h in (omega (arith, ints), omega (arith, ints))

beside : (x y : ℤ) → (pos 0 ≤ℤ x → (pos 0 ≤ℤ int_rem x y) × (int_rem x y ≤ℤ x)) × (x ≤ℤ pos 0 → (x ≤ℤ int_rem x y) × (int_rem x y ≤ℤ pos 0))
beside (pos a) y =
    let l = mod-le a (unsigned_abs y) in
    (λ h. (omega (arith, ints), omega (arith, ints)), λ h. (omega (arith, ints), omega (arith, ints)))
beside (negsuc a) y =
    let l = mod-le (suc a) (unsigned_abs y) in
    (λ h. absurd (omega (arith, ints)), λ h. (omega (arith, ints), omega (arith, ints)))

-- the remainder has the number's sign, and is nearer to 0 than the divisor
pub signed_quotient-with_remainder : (x y : ℤ) → pos 0 <ℤ y → (int_div x y ≡ int_div x y) × ((int_div x y *ℤ y) +ℤ int_rem x y ≡ x)
    × (x <ℤ ((int_div x y *ℤ y) +ℤ y)) × ((int_div x y *ℤ y) <ℤ (x +ℤ y))
    × (pos 0 ≤ℤ x → (pos 0 ≤ℤ (int_div x y *ℤ y)) × ((int_div x y *ℤ y) ≤ℤ x)) × (x ≤ℤ pos 0 → (x ≤ℤ (int_div x y *ℤ y)) × ((int_div x y *ℤ y) ≤ℤ pos 0))
signed_quotient-with_remainder x y h =
    let e = quot-rem x y in
    let b = beside x y in
    let c = below x y (omega (arith, ints)) in (
      refl,
      e,
      omega (arith, ints),
      omega (arith, ints),
      λ g. let d = b.0 g in (omega (arith, ints), omega (arith, ints)),
      λ g. let d = b.1 g in (omega (arith, ints), omega (arith, ints)),
    )

pub ruleset remainders = (ints, lt-tested, le-tested, gt-tested, ge-tested, signed_quotient-with_remainder)

-- without a sign. With the law above, a difference would not be proved
pub ruleset natural_remainders = (ints, Decides-int_eq, lt-tested, le-tested, quotient-with_remainder)
