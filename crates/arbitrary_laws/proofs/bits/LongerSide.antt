-- Laws that rewrite several operations to one, each from its longer side. The search applies such a law only
-- where the longer side occurs, so it does not rewrite back and forth. The set `bits` of Sets.antt has these.
-- The small sets have the laws from the shorter side.
use Rattle.std.specs.Prelude.{Bool, false, pos, ℕ, ℤ, ◌+◌, ◌≡◌, ◌≤◌}
use Rattle.std.proofs.Common.{ap, arith, sym, ◌∙◌}
use Rattle.arbitrary_base.specs.Operation.{bitwise_and, bitwise_not, bitwise_or, bitwise_xor, rotated_left, shifted_left, shifted_right, wrapped_difference, wrapped_sum}
use Rattle.arbitrary_base.proofs.operations.Complement.{negated-is_sum, not-is_difference}
use Rattle.arbitrary_base.proofs.operations.WrappedRing.{wrapped_difference-is_sum}
use Rattle.arbitrary_laws.proofs.bits.Parts.{and_not-is_xor, or-is_xor, xor-is_or, xor-is_and}
use Rattle.arbitrary_laws.proofs.rotations.RotationsAndReversals.{rotated_left-as_shifts}
use Rattle.arbitrary_laws.proofs.shifts.ShiftPairs.{rotated_left-as_sum, rotated_left-as_xor}
use Rattle.arbitrary_laws.proofs.sums.Carry.{or-is_sum, xor-is_sum}
use Rattle.arbitrary_laws.proofs.sums.Complements.{difference-by_not, not-is_negated, sum-by_not}

module _ (s : Bool) (B : ℕ) (x y : ℤ) where
  pub or-less_and : bitwise_and s B (bitwise_or s B x y) (bitwise_not s B (bitwise_and s B x y)) ≡ bitwise_xor s B x y
  or-less_and = sym (xor-is_and s B x y)

  pub either-alone : bitwise_or s B (bitwise_and s B x (bitwise_not s B y)) (bitwise_and s B (bitwise_not s B x) y) ≡ bitwise_xor s B x y
  either-alone = sym (xor-is_or s B x y)

  pub without-shared : bitwise_xor s B x (bitwise_and s B x y) ≡ bitwise_and s B x (bitwise_not s B y)
  without-shared = sym (and_not-is_xor s B x y)

  pub xor-and_shared : bitwise_xor s B (bitwise_xor s B x y) (bitwise_and s B x y) ≡ bitwise_or s B x y
  xor-and_shared = sym (or-is_xor s B x y)

  module _ (some : 1 ≤ B) where
    pub alone-added : wrapped_sum s B (bitwise_and s B x (bitwise_not s B y)) y ≡ bitwise_or s B x y
    alone-added = sym (or-is_sum s B x y some)

    pub alone-summed : wrapped_sum s B (bitwise_and s B x (bitwise_not s B y)) (bitwise_and s B y (bitwise_not s B x)) ≡ bitwise_xor s B x y
    alone-summed = sym (xor-is_sum s B x y some)

    pub not-added : wrapped_sum s B (wrapped_sum s B x (bitwise_not s B y)) (pos 1) ≡ wrapped_difference s B x y
    not-added = sym (difference-by_not s B x y some)

    pub not-taken : wrapped_difference s B (wrapped_difference s B x (bitwise_not s B y)) (pos 1) ≡ wrapped_sum s B x y
    not-taken = sym (sum-by_not s B x y some)

    pub negated-added : wrapped_sum s B x (wrapped_difference s B (pos 0) y) ≡ wrapped_difference s B x y
    negated-added = sym (wrapped_difference-is_sum s B x y some)

module _ (s : Bool) (B : ℕ) (x : ℤ) (some : 1 ≤ B) where
  pub negated-less_one : wrapped_difference s B (wrapped_difference s B (pos 0) x) (pos 1) ≡ bitwise_not s B x
  negated-less_one = sym (not-is_difference s B x some)

  pub not-and_one : wrapped_sum s B (bitwise_not s B x) (pos 1) ≡ wrapped_difference s B (pos 0) x
  not-and_one = sym (negated-is_sum s B x some)

  pub next-negated : wrapped_difference s B (pos 0) (wrapped_sum s B x (pos 1)) ≡ bitwise_not s B x
  next-negated = sym (not-is_negated s B x some)

-- two shifts of one number, by k places and by the others
module _ (B : ℕ) (x : ℤ) (k j : ℕ) (whole : k + j ≡ B) where
  pub shifts-joined : bitwise_or false B (shifted_left false B x k) (shifted_right false B x j) ≡ rotated_left false B x k
  shifts-joined = ap (λ (i : ℕ). bitwise_or false B (shifted_left false B x k) (shifted_right false B x i)) (omega arith) ∙ sym (rotated_left-as_shifts B x k (omega arith))

  pub shifts-under_xor : 1 ≤ B → bitwise_xor false B (shifted_left false B x k) (shifted_right false B x j) ≡ rotated_left false B x k
  shifts-under_xor some = ap (λ (i : ℕ). bitwise_xor false B (shifted_left false B x k) (shifted_right false B x i)) (omega arith) ∙ sym (rotated_left-as_xor B x k some (omega arith))

  pub shifts-added : 1 ≤ B → wrapped_sum false B (shifted_left false B x k) (shifted_right false B x j) ≡ rotated_left false B x k
  shifts-added some = ap (λ (i : ℕ). wrapped_sum false B (shifted_left false B x k) (shifted_right false B x i)) (omega arith) ∙ sym (rotated_left-as_sum B x k some (omega arith))

pub ruleset longer_sides = (or-less_and, either-alone, without-shared, xor-and_shared, alone-added, alone-summed, not-added, not-taken, negated-added, negated-less_one, not-and_one, next-negated, shifts-joined, shifts-under_xor, shifts-added)
