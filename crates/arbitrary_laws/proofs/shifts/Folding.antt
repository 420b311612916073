-- `^` of a number and itself shifted: Gray codes, and generators of random numbers by shifts and `^`.
-- FoldingOrder.antt has several of these in either order.
use Rattle.std.specs.Int.{int_shr}
use Rattle.std.specs.Prelude.{Bool, false, negsuc, pos, ℕ, ℤ, ◌+◌, ◌/◌, ◌<◌, ◌^◌, ◌≡◌, ◌≤◌}
use Rattle.std.proofs.Common.{ap, arith, lit≤, pow-add, sym, ◌∙◌}
use Rattle.std.proofs.Math.Nat.{div-div-eq-div-mul, div-eq_of_lt, pow-le-pow_right}
use Rattle.std.proofs.lemmas.Int.{ints}
use Rattle.std.proofs.lemmas.Nat.{pow_pos}
use Rattle.arbitrary_base.specs.Operation.{bitwise_xor, shifted_right}
use Rattle.arbitrary_base.specs.Range.{InRange}
use Rattle.arbitrary_base.proofs.bit_lists.SignBit.{InRange-int_shr}
use Rattle.arbitrary_base.proofs.operations.Bitwise.{bitwise_xor-commutes}
use Rattle.arbitrary_base.proofs.operations.Shift.{shifted_right-is_shr, shifted_right-xor}
use Rattle.arbitrary_laws.proofs.bits.Identities.{bitwise_xor-associates, bitwise_xor-undoes, bitwise_xor-zero}
use Rattle.arbitrary_laws.proofs.shifts.ShiftAndBack.{shifted_right-twice}

shr-past : (B n k : ℕ) → n < 2 ^ B → B ≤ k → n / 2 ^ k ≡ 0
shr-past B n k h g = let p : 2 ^ B ≤ 2 ^ k = pow-le-pow_right (lit≤ tt) g in div-eq_of_lt (omega arith)

pub shifted_right-past : (B : ℕ) (x : ℤ) (a b : ℕ) → 1 ≤ B → a ≤ B → b ≤ B → B ≤ a + b → InRange false B x
    → shifted_right false B (shifted_right false B x a) b ≡ pos 0
shifted_right-past B (pos n) a b h i j g f =
    ap (λ (z : ℤ). shifted_right false B z b) (shifted_right-is_shr false B (pos n) a h i f)
    ∙ shifted_right-is_shr false B (int_shr (pos n) a) b h j (InRange-int_shr false B a (pos n) f)
    ∙ ap pos (div-div-eq-div-mul n (2 ^ a) (2 ^ b) ∙ ap (λ (k : ℕ). n / k) (sym (pow-add 2 a b)) ∙ shr-past B n (a + b) (let u = f.high in let o = pow_pos B in omega (arith, ints)) g)
shifted_right-past B (negsuc n) a b h i j g f = let l = f.low in absurd (omega (arith, ints))

-- a number in the middle goes
pub bitwise_xor-chain : (s : Bool) (B : ℕ) (x y z : ℤ) → 1 ≤ B → InRange s B x
    → bitwise_xor s B (bitwise_xor s B x y) (bitwise_xor s B y z) ≡ bitwise_xor s B x z
bitwise_xor-chain s B x y z h f =
    sym (bitwise_xor-associates s B (bitwise_xor s B x y) y z)
    ∙ ap (λ (w : ℤ). bitwise_xor s B w z) (bitwise_xor-undoes s B x y h f)

-- the two in the middle change places
pub bitwise_xor-exchanged : (s : Bool) (B : ℕ) (x y z w : ℤ) → 1 ≤ B
    → bitwise_xor s B (bitwise_xor s B x y) (bitwise_xor s B z w) ≡ bitwise_xor s B (bitwise_xor s B x z) (bitwise_xor s B y w)
bitwise_xor-exchanged s B x y z w h =
    bitwise_xor-associates s B x y (bitwise_xor s B z w)
    ∙ ap (bitwise_xor s B x) (sym (bitwise_xor-associates s B y z w) ∙ ap (λ (v : ℤ). bitwise_xor s B v w) (bitwise_xor-commutes s B y z) ∙ bitwise_xor-associates s B z y w)
    ∙ sym (bitwise_xor-associates s B x z (bitwise_xor s B y w))

-- the same `^` and shift once more is that by twice the places, or undoes it
pub folded-twice : (B : ℕ) (x : ℤ) (a : ℕ) → 1 ≤ B → a + a ≤ B → InRange false B x
    → bitwise_xor false B (bitwise_xor false B x (shifted_right false B x a)) (shifted_right false B (bitwise_xor false B x (shifted_right false B x a)) a)
    ≡ bitwise_xor false B x (shifted_right false B x (a + a))
folded-twice B x a h g f =
    ap (bitwise_xor false B _) (shifted_right-xor false B x _ a (omega arith) ∙ ap (bitwise_xor false B _) (shifted_right-twice false B x a a h g f))
    ∙ bitwise_xor-chain false B x _ _ h f

pub folded-away : (B : ℕ) (x : ℤ) (a : ℕ) → 1 ≤ B → a ≤ B → B ≤ a + a → InRange false B x
    → bitwise_xor false B (bitwise_xor false B x (shifted_right false B x a)) (shifted_right false B (bitwise_xor false B x (shifted_right false B x a)) a) ≡ x
folded-away B x a h i g f =
    ap (bitwise_xor false B _) (shifted_right-xor false B x _ a i ∙ ap (bitwise_xor false B _) (shifted_right-past B x a a h i i g f))
    ∙ bitwise_xor-chain false B x _ _ h f ∙ bitwise_xor-zero false B x h f
