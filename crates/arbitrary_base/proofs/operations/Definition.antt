-- What the word of each operation of specs/Operation.antt means, and the bits of its result.
use Rattle.std.specs.Bool.{beq}
use Rattle.std.specs.List.{slice_rotate_right}
use Rattle.std.specs.Prelude.{Bool, List, false, length, map, negsuc, not, pos, replicate, reverse, suc, true, zero, ℕ, ℤ, ◌&&◌, ◌*ℤ◌, ◌+ℤ◌, ◌-ℤ◌, ◌-◌, ◌^◌, ◌||◌, ◌∷◌, ◌≡◌, ◌≤◌}
use Rattle.std.proofs.Common.{ap, arith, refl, subst, sym, ◌∙◌}
use Rattle.std.proofs.lemmas.Int.{ints}
use Rattle.std.proofs.lemmas.List.{length-reverse}
use Rattle.std.proofs.lemmas.Nat.{pow_pos}
use Rattle.arbitrary_base.specs.BitList.{bits, bits_and, bits_or, bits_xor, fill, shl, shr, val}
use Rattle.arbitrary_base.specs.Operation.{bitwise_and, bitwise_not, bitwise_or, bitwise_xor, reversed, rotated_left, rotated_right, shifted_left, shifted_right, wrapped_difference, wrapped_product, wrapped_sum}
use Rattle.arbitrary_base.specs.Range.{InRange}
use Rattle.arbitrary_base.specs.Residue.{Congruent, wrap}
use Rattle.arbitrary_base.proofs.bit_lists.Movement.{length-rotl, length-shl, length-shr, replicate-not, rotr}
use Rattle.arbitrary_base.proofs.bit_lists.Pointwise.{length-pointwise, pointwise}
use Rattle.arbitrary_base.proofs.bit_lists.TwosComplement.{bits-congruent, bits-negsuc, bits-val, val-bits_in_range, val-num}
use Rattle.arbitrary_base.proofs.bit_lists.UnsignedNumber.{length-bits, length-not, same_length}
use Rattle.arbitrary_base.proofs.modular.Residue.{wrap-in_range}
use Rattle.arbitrary_base.proofs.modular.Congruence.{Congruent-by_times}

-- ---- what each word is

pub sum-is : (s : Bool) (B : ℕ) (x y : ℤ) → wrapped_sum s B x y ≡ wrap s B (x +ℤ y)
unfolding wrapped_sum
sum-is s B x y = refl

pub difference-is : (s : Bool) (B : ℕ) (x y : ℤ) → wrapped_difference s B x y ≡ wrap s B (x -ℤ y)
unfolding wrapped_difference
difference-is s B x y = refl

pub product-is : (s : Bool) (B : ℕ) (x y : ℤ) → wrapped_product s B x y ≡ wrap s B (x *ℤ y)
unfolding wrapped_product
product-is s B x y = refl

pub and-is : (s : Bool) (B : ℕ) (x y : ℤ) → bitwise_and s B x y ≡ val s (bits_and (bits B x) (bits B y))
unfolding bitwise_and
and-is s B x y = refl

pub or-is : (s : Bool) (B : ℕ) (x y : ℤ) → bitwise_or s B x y ≡ val s (bits_or (bits B x) (bits B y))
unfolding bitwise_or
or-is s B x y = refl

pub xor-is : (s : Bool) (B : ℕ) (x y : ℤ) → bitwise_xor s B x y ≡ val s (bits_xor (bits B x) (bits B y))
unfolding bitwise_xor
xor-is s B x y = refl

pub not-is : (s : Bool) (B : ℕ) (x : ℤ) → bitwise_not s B x ≡ val s (map not (bits B x))
unfolding bitwise_not
not-is s B x = refl

pub left-is : (s : Bool) (B : ℕ) (x : ℤ) (k : ℕ) → shifted_left s B x k ≡ val s (shl (bits B x) k)
unfolding shifted_left
left-is s B x k = refl

pub right-is : (s : Bool) (B : ℕ) (x : ℤ) (k : ℕ) → shifted_right s B x k ≡ val s (shr (bits B x) k (fill s (bits B x)))
unfolding shifted_right
right-is s B x k = refl

pub rotl-is : (s : Bool) (B : ℕ) (x : ℤ) (k : ℕ) → rotated_left s B x k ≡ val s (slice_rotate_right (bits B x) k)
unfolding rotated_left
rotl-is s B x k = refl

pub rotr-is : (s : Bool) (B : ℕ) (x : ℤ) (k : ℕ) → rotated_right s B x k ≡ val s (rotr (bits B x) k)
unfolding rotated_right
rotr-is s B x k = refl

pub reversed-is : (s : Bool) (B : ℕ) (x : ℤ) → reversed s B x ≡ val s (reverse (bits B x))
unfolding reversed
reversed-is s B x = refl

-- ---- the bits of what it gives

pub length-of_two : (f : Bool → Bool → Bool) (B : ℕ) (x y : ℤ) → length (pointwise f (bits B x) (bits B y)) ≡ B
length-of_two f B x y = length-pointwise f (bits B x) (bits B y) (same_length B x y) ∙ length-bits B x

pub bits-and : (s : Bool) (B : ℕ) (x y : ℤ) → bits B (bitwise_and s B x y) ≡ bits_and (bits B x) (bits B y)
bits-and s B x y = ap (bits B) (and-is s B x y) ∙ bits-val s B _ (length-of_two (λ a b. a && b) B x y)

pub bits-or : (s : Bool) (B : ℕ) (x y : ℤ) → bits B (bitwise_or s B x y) ≡ bits_or (bits B x) (bits B y)
bits-or s B x y = ap (bits B) (or-is s B x y) ∙ bits-val s B _ (length-of_two (λ a b. a || b) B x y)

pub bits-xor : (s : Bool) (B : ℕ) (x y : ℤ) → bits B (bitwise_xor s B x y) ≡ bits_xor (bits B x) (bits B y)
bits-xor s B x y = ap (bits B) (xor-is s B x y) ∙ bits-val s B _ (length-of_two (λ a b. not (beq a b)) B x y)

pub bits-not : (s : Bool) (B : ℕ) (x : ℤ) → bits B (bitwise_not s B x) ≡ map not (bits B x)
bits-not s B x = ap (bits B) (not-is s B x) ∙ bits-val s B _ (length-not (bits B x) ∙ length-bits B x)

pub bits-left : (s : Bool) (B : ℕ) (x : ℤ) (k : ℕ) → k ≤ B → bits B (shifted_left s B x k) ≡ shl (bits B x) k
bits-left s B x k h =
    let l = length-bits B x in
    ap (bits B) (left-is s B x k) ∙ bits-val s B _ (length-shl (bits B x) k (omega arith) ∙ l)

pub bits-right : (s : Bool) (B : ℕ) (x : ℤ) (k : ℕ) → k ≤ B → bits B (shifted_right s B x k) ≡ shr (bits B x) k (fill s (bits B x))
bits-right s B x k h =
    let l = length-bits B x in
    ap (bits B) (right-is s B x k) ∙ bits-val s B _ (length-shr (bits B x) k (fill s (bits B x)) (omega arith) ∙ l)

pub bits-rotl : (s : Bool) (B : ℕ) (x : ℤ) (k : ℕ) → bits B (rotated_left s B x k) ≡ slice_rotate_right (bits B x) k
bits-rotl s B x k = ap (bits B) (rotl-is s B x k) ∙ bits-val s B _ (length-rotl (bits B x) k ∙ length-bits B x)

pub bits-reversed : (s : Bool) (B : ℕ) (x : ℤ) → bits B (reversed s B x) ≡ reverse (bits B x)
bits-reversed s B x = ap (bits B) (reversed-is s B x) ∙ bits-val s B _ (length-reverse (bits B x) ∙ length-bits B x)

-- numbers that are the values of the same list are the same
pub by-bits : (s : Bool) (l m : List Bool) (x y : ℤ) → x ≡ val s l → y ≡ val s m → l ≡ m → x ≡ y
by-bits s l m x y e f g = e ∙ ap (val s) g ∙ sym f

-- a number in range is the value of its bits
pub of-bits : (s : Bool) (B : ℕ) (x : ℤ) → 1 ≤ B → InRange s B x → x ≡ val s (bits B x)
of-bits s B x h f = sym (val-bits_in_range s B x h f)

-- ---- zero, and the number whose bits are all one

pub bits-zero : (B : ℕ) → bits B (pos 0) ≡ replicate B false
unfolding bits
bits-zero zero = refl
bits-zero (suc k) = ap (λ (l : List Bool). false ∷ l) (bits-zero k)

pub alike : (b : Bool) (B : ℕ) (x : ℤ) → replicate (length (bits B x)) b ≡ replicate B b
alike b B x = ap (λ (n : ℕ). replicate n b) (length-bits B x)

pub zero-in_range : (s : Bool) (B : ℕ) → InRange s B (pos 0)
zero-in_range false B = let p = pow_pos B in record { low = omega (arith, ints); high = omega (arith, ints) }
zero-in_range true B = let p = pow_pos (B - 1) in record { low = omega (arith, ints); high = omega (arith, ints) }

pub zero-is : (s : Bool) (B : ℕ) → 1 ≤ B → pos 0 ≡ val s (replicate B false)
zero-is s B h = of-bits s B (pos 0) h (zero-in_range s B) ∙ ap (val s) (bits-zero B)

pub bits-minus_one : (B : ℕ) → bits B (negsuc 0) ≡ replicate B true
bits-minus_one B = bits-negsuc B 0 ∙ ap (map not) (bits-zero B) ∙ replicate-not B false

pub bits-highest : (B : ℕ) → bits B (pos (2 ^ B) -ℤ pos 1) ≡ replicate B true
bits-highest B =
    let c : Congruent B (pos (2 ^ B) -ℤ pos 1) (negsuc 0) = Congruent-by_times B _ _ (pos 1) (omega (arith, ints)) in
    bits-congruent B (pos (2 ^ B) -ℤ pos 1) (negsuc 0) c ∙ bits-minus_one B

pub bits-not_zero : (s : Bool) (B : ℕ) → bits B (bitwise_not s B (pos 0)) ≡ replicate B true
bits-not_zero s B = bits-not s B (pos 0) ∙ ap (map not) (bits-zero B) ∙ replicate-not B false

pub minus_one-in_range : (B : ℕ) → InRange true B (negsuc 0)
minus_one-in_range B = let p = pow_pos (B - 1) in record { low = omega (arith, ints); high = omega (arith, ints) }

pub not-in_range : (s : Bool) (B : ℕ) (x : ℤ) → 1 ≤ B → InRange s B (bitwise_not s B x)
not-in_range s B x h =
    let e = val-num s B (map not (bits B x)) (length-not (bits B x) ∙ length-bits B x) in
    subst (InRange s B) (sym (not-is s B x ∙ e)) (wrap-in_range s B _ h)
