-- The order of a signed number and its `&` or `|` with another, which depends only on the two signs. Order.antt
-- has unsigned numbers.
use Rattle.std.specs.Prelude.{pos, true, ℕ, ℤ, ◌<ℤ◌, ◌↔◌, ◌≤ℤ◌, ◌≤◌, ◌⊎◌}
use Rattle.std.proofs.Common.{arith, refl}
use Rattle.std.proofs.lemmas.Int.{ints}
use Rattle.arbitrary_base.specs.Operation.{bitwise_and, bitwise_not, bitwise_or}
use Rattle.arbitrary_base.specs.Range.{InRange}
use Rattle.arbitrary_base.proofs.bit_lists.StdBitwise.{not-signed}
use Rattle.arbitrary_base.proofs.operations.Bitwise.{bitwise_and-commutes}
use Rattle.arbitrary_base.proofs.operations.Definition.{not-in_range, not-is}
use Rattle.arbitrary_laws.proofs.masks.NumberUnderMask.{and-by_complement, or-by_and}
use Rattle.arbitrary_laws.proofs.orders.Order.{and-negative}

-- what `&` takes from x is `x & !y`
pub and-at_most : (B : ℕ) (x y : ℤ) → 1 ≤ B → InRange true B x → InRange true B y
    → (bitwise_and true B x y ≤ℤ x) ↔ ((pos 0 ≤ℤ x) ⊎ (y <ℤ pos 0))
and-at_most B x y h f g =
    let n = and-negative B x (bitwise_not true B y) h f (not-in_range true B y h) in
    let e = and-by_complement true B x y h f in
    let d = not-signed true B y _ refl h g (not-is true B y) in
    (grind (arith, ints, n, e, d), grind (arith, ints, n, e, d))

-- what `|` adds to x is `y & !x`
pub or-at_least : (B : ℕ) (x y : ℤ) → 1 ≤ B → InRange true B x → InRange true B y
    → (x ≤ℤ bitwise_or true B x y) ↔ ((x <ℤ pos 0) ⊎ (pos 0 ≤ℤ y))
or-at_least B x y h f g =
    let n = and-negative B y (bitwise_not true B x) h g (not-in_range true B x h) in
    let e = and-by_complement true B y x h g in
    let d = not-signed true B x _ refl h f (not-is true B x) in
    let o = or-by_and true B x y h f g in
    let c = bitwise_and-commutes true B x y in
    (grind (arith, ints, n, e, d, o, c), grind (arith, ints, n, e, d, o, c))
