-- The complement of the greatest number, the lowest bit, and the bit `1 << k`, as `FixedWidth` states them for
-- generic code.
use Rattle.std.specs.Prelude.{◌≡◌, ◌≤◌, ◌<◌, ◌%◌, ◌^◌, ℕ, ℤ, Bool, true, false, pos, unsigned_abs, map, not, ◌-ℤ◌}
use Rattle.std.proofs.Common.{suc, ap, subst, sym, ◌∙◌, arith, mod-eq_of_lt, pow_pos}
use Rattle.std.proofs.lemmas.Int.{ints}
use Rattle.arbitrary_base.specs.Range.{InRange, hi}
use Rattle.arbitrary_base.specs.BitList.{bits, bits_and, val}
use Rattle.arbitrary_base.specs.Operation.{shifted_left}
use Rattle.arbitrary_base.specs.Residue.{wrap}
use Rattle.arbitrary_base.proofs.integers.Powers.{one-mul_z}
use Rattle.arbitrary_base.proofs.bit_lists.TwosComplement.{val-bits}
use Rattle.arbitrary_base.proofs.modular.Congruence.{pow_le}
use Rattle.arbitrary_base.proofs.modular.Residue.{wrap-in_range, wrap-of_in_range}
use Rattle.arbitrary_base.proofs.operations.Definition.{and-is, product-is}
use Rattle.arbitrary_base.proofs.operations.KnownMask.{and-by_one}
use Rattle.arbitrary_base.proofs.operations.OperatorOrder.{not-mirrors}
use Rattle.arbitrary_base.proofs.operations.Shift.{shifted_left-is_product}

-- without a sign what a number lacks to the greatest is its complement
pub rest-is_complement : (s : Bool) (B : ℕ) (x y z r : ℤ) → s ≡ false → 1 ≤ B → x ≡ hi s B → r ≡ x -ℤ y
    → z ≡ val s (map not (bits B y)) → val s (bits B y) ≡ y → r ≡ z
rest-is_complement false B x y z r e h f g i j = let m = not-mirrors false B y z h i j in omega (arith, ints)
rest-is_complement true B x y z r e h f g i j = absurd (cc)

-- under 1 a number leaves its remainder by 2
pub and-one : (s : Bool) (B : ℕ) (x y z : ℤ) → 1 ≤ B → z ≡ val s (bits_and (bits B x) (bits B y)) → val s (bits B y) ≡ y → y ≡ pos 1
    → z ≡ pos (unsigned_abs x % 2)
and-one s B x y z h e f d =
    and-by_one s B x y z h (subst (InRange s B) (sym (val-bits s B y h) ∙ f) (wrap-in_range s B y h)) (e ∙ sym (and-is s B x y)) d

-- without a sign 1 moved up is a power of 2 in range
pub one-moved : (s : Bool) (B m k : ℕ) (x : ℤ) → s ≡ false → 1 ≤ B → x ≡ pos 1 → m ≡ k % B → k < B
    → (shifted_left s B x m ≡ pos (2 ^ k)) × (1 ≤ 2 ^ k) × (2 ^ k < 2 ^ B)
one-moved false B m k x e h f d g =
    let o = pow_pos k in
    let p = pow_le (suc k) B g in
    let l : 2 ^ k < 2 ^ B = omega arith in
    let i : InRange false B (pos (2 ^ k)) = record { low = omega (arith, ints); high = omega (arith, ints) } in (
      ap (λ (z : ℤ). shifted_left false B z m) f
          ∙ ap (shifted_left false B (pos 1)) (d ∙ mod-eq_of_lt g)
          ∙ shifted_left-is_product false B (pos 1) k h (omega arith)
          ∙ product-is false B (pos 1) (pos (2 ^ k))
          ∙ ap (wrap false B) (one-mul_z (pos (2 ^ k)))
          ∙ wrap-of_in_range false B (pos (2 ^ k)) h i,
      o,
      l,
    )
one-moved true B m k x e h f d g = absurd (cc)
