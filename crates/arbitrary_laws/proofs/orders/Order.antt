-- What the tests of two numbers return, and the order of bits, sums and shifts. SignedOrder.antt has `&` and `|`
-- of signed numbers.
use Rattle.std.specs.Bool.{Decides, beq}
use Rattle.std.specs.Cmp.{int_ranks}
use Rattle.std.specs.Int.{int_shr}
use Rattle.std.specs.Ordering.{int_cmp, is_ge, is_gt, is_le, is_lt}
use Rattle.std.specs.Prelude.{Bool, false, int_lt, negsuc, not, pos, true, ℕ, ℤ, ◌&&◌, ◌+ℤ◌, ◌-ℤ◌, ◌<ℤ◌, ◌||◌, ◌↔◌, ◌≡◌, ◌≤ℤ◌, ◌≤◌, ◌⊎◌}
use Rattle.std.proofs.Common.{ap, ap₂, arith, inl, inr, refl, sym, ◌-◌, ◌<◌, ◌^◌, ◌∙◌}
use Rattle.std.proofs.Math.Pow.{shr_mono}
use Rattle.std.proofs.lemmas.Int.{ints}
use Rattle.std.proofs.lemmas.Nat.{pow_pos}
use Rattle.arbitrary_base.specs.BitList.{bits, fill, num}
use Rattle.arbitrary_base.specs.Operation.{bitwise_and, bitwise_or, bitwise_xor, shifted_right}
use Rattle.arbitrary_base.specs.Range.{InRange, hi, lo}
use Rattle.arbitrary_base.specs.Saturating.{clamp}
use Rattle.arbitrary_base.proofs.bit_lists.Pointwise.{pointwise}
use Rattle.arbitrary_base.proofs.bit_lists.SignBit.{last-natural, last-not}
use Rattle.arbitrary_base.proofs.bit_lists.StdBitwise.{num-and_right}
use Rattle.arbitrary_base.proofs.bit_lists.TwosComplement.{bits-negsuc}
use Rattle.arbitrary_base.proofs.bit_lists.UnsignedNumber.{length-bits, same_length}
use Rattle.arbitrary_base.proofs.operations.BitsAndSums.{and-in_range, num-or_and, num-xor_and, or-in_range, plain, xor-in_range}
use Rattle.arbitrary_base.proofs.operations.Definition.{bits-and, bits-or, bits-xor}
use Rattle.arbitrary_base.proofs.operations.Shift.{fill-pointwise, shifted_right-is_shr}
use Rattle.arbitrary_base.proofs.storages.CheckedSum.{three_ways}
use Rattle.arbitrary_base.proofs.storages.Clamp.{clamp-above, clamp-fits}

-- ---- the tests

pub le-tested : (x y : ℤ) → Decides (is_le (int_cmp x y)) (x ≤ℤ y)
le-tested x y = (grind (arith, int_ranks), grind (arith, int_ranks))

pub lt-tested : (x y : ℤ) → Decides (is_lt (int_cmp x y)) (x <ℤ y)
lt-tested x y = (grind (arith, int_ranks), grind (arith, int_ranks))

pub ge-tested : (x y : ℤ) → Decides (is_ge (int_cmp x y)) (y ≤ℤ x)
ge-tested x y = (grind (arith, int_ranks), grind (arith, int_ranks))

pub gt-tested : (x y : ℤ) → Decides (is_gt (int_cmp x y)) (y <ℤ x)
gt-tested x y = (grind (arith, int_ranks), grind (arith, int_ranks))

-- ---- where the type has no sign

pub xor-below_or : (B : ℕ) (x y : ℤ) → 1 ≤ B → bitwise_xor false B x y ≤ℤ bitwise_or false B x y
xor-below_or B x y h =
    let a = plain B (bitwise_xor false B x y) (xor-in_range false B x y h) in
    let b = plain B (bitwise_or false B x y) (or-in_range false B x y h) in
    let c = ap num (bits-xor false B x y) in
    let d = ap num (bits-or false B x y) in
    let e = num-xor_and (bits B x) (bits B y) (same_length B x y) in
    omega (arith, ints)

pub or-below_sum : (B : ℕ) (x y : ℤ) → 1 ≤ B → InRange false B x → InRange false B y → bitwise_or false B x y ≤ℤ (x +ℤ y)
or-below_sum B x y h f g =
    let a = plain B x f in
    let b = plain B y g in
    let c = plain B (bitwise_or false B x y) (or-in_range false B x y h) in
    let d = ap num (bits-or false B x y) in
    let e = num-or_and (bits B x) (bits B y) (same_length B x y) in
    omega (arith, ints)

-- also where the sum stops at the greatest number
pub or-below_clamped : (B : ℕ) (x y : ℤ) → 1 ≤ B → InRange false B x → InRange false B y → bitwise_or false B x y ≤ℤ clamp false B (x +ℤ y)
or-below_clamped B x y h f g = by-range (three_ways false B (x +ℤ y))
  where
    by-range : (InRange false B (x +ℤ y)) ⊎ (((x +ℤ y) <ℤ lo false B) ⊎ (hi false B <ℤ (x +ℤ y))) → bitwise_or false B x y ≤ℤ clamp false B (x +ℤ y)
    by-range (inl r) =
        let e = clamp-fits false B (x +ℤ y) r in
        let l = or-below_sum B x y h f g in
        omega (arith, ints)
    by-range (inr (inl below)) = let a = f.low in let b = g.low in absurd (omega (arith, ints))
    by-range (inr (inr above)) =
        let e = clamp-above false B (x +ℤ y) h above in
        let l = (or-in_range false B x y h).high in
        omega (arith, ints)

pub difference-below_xor : (B : ℕ) (x y z : ℤ) → 1 ≤ B → InRange false B x → InRange false B y → z ≤ℤ (x -ℤ y) → z ≤ℤ bitwise_xor false B x y
difference-below_xor B x y z h f g l =
    let a = plain B x f in
    let b = plain B y g in
    let c = plain B (bitwise_xor false B x y) (xor-in_range false B x y h) in
    let d = ap num (bits-xor false B x y) in
    let e = num-xor_and (bits B x) (bits B y) (same_length B x y) in
    let i = num-or_and (bits B x) (bits B y) (same_length B x y) in
    let j = num-and_right (bits B x) (bits B y) in
    omega (arith, ints)

pub and-below_or : (B : ℕ) (x y : ℤ) → 1 ≤ B → bitwise_and false B x y ≤ℤ bitwise_or false B x y
and-below_or B x y h =
    let a = plain B (bitwise_and false B x y) (and-in_range false B x y h) in
    let b = plain B (bitwise_or false B x y) (or-in_range false B x y h) in
    let c = ap num (bits-and false B x y) in
    let d = ap num (bits-or false B x y) in
    let e = num-xor_and (bits B x) (bits B y) (same_length B x y) in
    omega (arith, ints)

-- ---- where it has one: which results are below 0

-- the last bit is whether a number with a sign is below 0
pub fill-is_negative : (B : ℕ) (x : ℤ) → 1 ≤ B → InRange true B x → fill true (bits B x) ≡ int_lt x (pos 0)
fill-is_negative B (pos n) h r =
    let t = r.high in
    let p = pow_pos (B - 1) in
    let e : int_lt (pos n) (pos 0) ≡ false = grind (arith, ints) in
    last-natural B n h (omega (arith, ints)) ∙ sym e
fill-is_negative B (negsuc n) h r =
    let t = r.low in
    let p = pow_pos (B - 1) in
    let small : n < 2 ^ (B - 1) = omega (arith, ints) in
    rw (bits-negsuc B n, last-not (bits B (pos n)) (omega (arith, length-bits B (pos n))), last-natural B n h small) refl

pub sign-pointwise : (f : Bool → Bool → Bool) (B : ℕ) (x y z : ℤ) → f false false ≡ false → 1 ≤ B → InRange true B x → InRange true B y → InRange true B z
    → bits B z ≡ pointwise f (bits B x) (bits B y) → int_lt z (pos 0) ≡ f (int_lt x (pos 0)) (int_lt y (pos 0))
sign-pointwise f B x y z n h i j k e =
    sym (fill-is_negative B z h k) ∙ ap (fill true) e ∙ fill-pointwise f true B x y n
    ∙ ap₂ f (fill-is_negative B x h i) (fill-is_negative B y h j)

pub and-negative : (B : ℕ) (x y : ℤ) → 1 ≤ B → InRange true B x → InRange true B y
    → (bitwise_and true B x y <ℤ pos 0) ↔ ((x <ℤ pos 0) × (y <ℤ pos 0))
and-negative B x y h f g =
    let e = sign-pointwise (λ a b. a && b) B x y _ refl h f g (and-in_range true B x y h) (bits-and true B x y) in
    (grind (arith, e), grind (arith, e))

pub or-negative : (B : ℕ) (x y : ℤ) → 1 ≤ B → InRange true B x → InRange true B y
    → (bitwise_or true B x y <ℤ pos 0) ↔ ((x <ℤ pos 0) ⊎ (y <ℤ pos 0))
or-negative B x y h f g =
    let e = sign-pointwise (λ a b. a || b) B x y _ refl h f g (or-in_range true B x y h) (bits-or true B x y) in
    (grind (arith, e), grind (arith, e))

pub xor-negative : (B : ℕ) (x y : ℤ) → 1 ≤ B → InRange true B x → InRange true B y
    → (bitwise_xor true B x y <ℤ pos 0) ↔ (((x <ℤ pos 0) × (pos 0 ≤ℤ y)) ⊎ ((pos 0 ≤ℤ x) × (y <ℤ pos 0)))
xor-negative B x y h f g =
    let e = sign-pointwise (λ a b. not (beq a b)) B x y _ refl h f g (xor-in_range true B x y h) (bits-xor true B x y) in
    (grind (arith, e), grind (arith, e))

-- ---- a right shift keeps the order

int_shr-keeps_order : (k : ℕ) (x y : ℤ) → x ≤ℤ y → int_shr x k ≤ℤ int_shr y k
int_shr-keeps_order k (pos m) (pos n) h = let e = shr_mono k (let d : m ≤ n = omega (arith, ints) in d) in omega (arith, ints)
int_shr-keeps_order k (pos m) (negsuc n) h = absurd (omega (arith, ints))
int_shr-keeps_order k (negsuc m) (pos n) h = omega (arith, ints)
int_shr-keeps_order k (negsuc m) (negsuc n) h = let e = shr_mono k (let d : n ≤ m = omega (arith, ints) in d) in omega (arith, ints)

pub shifted_right-keeps_order : (s : Bool) (B : ℕ) (x y : ℤ) (k : ℕ) → 1 ≤ B → k ≤ B → InRange s B x → InRange s B y → x ≤ℤ y
    → shifted_right s B x k ≤ℤ shifted_right s B y k
shifted_right-keeps_order s B x y k h g e f l =
    rw (shifted_right-is_shr s B x k h g e, shifted_right-is_shr s B y k h g f) (int_shr-keeps_order k x y l)

-- ---- the last bit
