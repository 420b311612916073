-- Rotations and reversals: two rotations as one, there and back, to the right, and of the numbers whose bits are
-- all equal.
use Rattle.std.specs.Bool.{beq}
use Rattle.std.specs.List.{slice_rotate_right}
use Rattle.std.specs.Prelude.{Bool, List, false, map, negsuc, not, pos, replicate, reverse, true, ℕ, ℤ, ◌&&◌, ◌+◌, ◌-ℤ◌, ◌-◌, ◌^◌, ◌||◌, ◌≡◌, ◌≤◌}
use Rattle.std.proofs.Common.{ap, ap₂, arith, sym, ◌∙◌}
use Rattle.std.proofs.lemmas.List.{reverse-reverse}
use Rattle.arbitrary_base.specs.BitList.{bits, bits_and, bits_or, bits_xor, shl, shr}
use Rattle.arbitrary_base.specs.Operation.{bitwise_and, bitwise_not, bitwise_or, bitwise_xor, reversed, rotated_left, rotated_right, shifted_left, shifted_right}
use Rattle.arbitrary_base.specs.Range.{InRange}
use Rattle.arbitrary_base.proofs.bit_lists.Movement.{rotr-rotl, rotr}
use Rattle.arbitrary_base.proofs.bit_lists.Pointwise.{not-rotr, rotr-pointwise}
use Rattle.arbitrary_base.proofs.bit_lists.Rotation.{reverse-rotr}
use Rattle.arbitrary_base.proofs.bit_lists.UnsignedNumber.{length-bits, same_length}
use Rattle.arbitrary_base.proofs.modular.Inverse.{rotl-rotr}
use Rattle.arbitrary_base.proofs.operations.Definition.{and-is, bits-and, bits-highest, bits-left, bits-minus_one, bits-not, bits-not_zero, bits-or, bits-reversed, bits-right, bits-rotl, bits-xor, bits-zero, by-bits, left-is, minus_one-in_range, not-in_range, not-is, of-bits, or-is, reversed-is, rotl-is, rotr-is, xor-is, zero-in_range}
use Rattle.arbitrary_base.proofs.operations.RotateAndReverse.{left-alike, rotr-alike, turned-alike}
use Rattle.arbitrary_laws.proofs.rotations.RotatedLists.{bits-rotr, reverse-shr, rotl-long, rotl-shifts, rotl-short, rotr-long, rotr-short}

-- ---- rotations one after the other

pub rotated_left-twice : (s : Bool) (B : ℕ) (x : ℤ) (a b : ℕ) → a + b ≤ B → rotated_left s B (rotated_left s B x a) b ≡ rotated_left s B x (a + b)
rotated_left-twice s B x a b h =
    let n = length-bits B x in
    by-bits _ _ _ _ _ (rotl-is s B _ b) (rotl-is s B x (a + b))
    (ap (λ (l : List Bool). slice_rotate_right l b) (bits-rotl s B x a) ∙ rotl-short (bits B x) a b (omega arith))

pub rotated_left-round : (s : Bool) (B : ℕ) (x : ℤ) (a b : ℕ) → a ≤ B → b ≤ B → B ≤ a + b → rotated_left s B (rotated_left s B x a) b ≡ rotated_left s B x (a + b - B)
rotated_left-round s B x a b h g e =
    let n = length-bits B x in
    by-bits _ _ _ _ _ (rotl-is s B _ b) (rotl-is s B x (a + b - B))
    (ap (λ (l : List Bool). slice_rotate_right l b) (bits-rotl s B x a) ∙ rotl-long (bits B x) a b (omega arith) (omega arith) (omega arith)
    ∙ ap (λ (i : ℕ). slice_rotate_right (bits B x) (a + b - i)) n)

pub rotated_right-twice : (s : Bool) (B : ℕ) (x : ℤ) (a b : ℕ) → a + b ≤ B → rotated_right s B (rotated_right s B x a) b ≡ rotated_right s B x (a + b)
rotated_right-twice s B x a b h =
    let n = length-bits B x in
    by-bits _ _ _ _ _ (rotr-is s B _ b) (rotr-is s B x (a + b))
    (ap (λ (l : List Bool). rotr l b) (bits-rotr s B x a) ∙ rotr-short (bits B x) a b (omega arith))

pub rotated_right-round : (s : Bool) (B : ℕ) (x : ℤ) (a b : ℕ) → a ≤ B → b ≤ B → B ≤ a + b → rotated_right s B (rotated_right s B x a) b ≡ rotated_right s B x (a + b - B)
rotated_right-round s B x a b h g e =
    let n = length-bits B x in
    by-bits _ _ _ _ _ (rotr-is s B _ b) (rotr-is s B x (a + b - B))
    (ap (λ (l : List Bool). rotr l b) (bits-rotr s B x a) ∙ rotr-long (bits B x) a b (omega arith) (omega arith) (omega arith)
    ∙ ap (λ (i : ℕ). rotr (bits B x) (a + b - i)) n)

pub right-undoes_left : (s : Bool) (B : ℕ) (x : ℤ) (k : ℕ) → 1 ≤ B → k ≤ B → InRange s B x → rotated_right s B (rotated_left s B x k) k ≡ x
right-undoes_left s B x k h g f =
    let n = length-bits B x in
    by-bits _ _ _ _ _ (rotr-is s B _ k) (of-bits s B x h f) (ap (λ (l : List Bool). rotr l k) (bits-rotl s B x k) ∙ rotr-rotl (bits B x) k (omega arith))

pub left-undoes_right : (s : Bool) (B : ℕ) (x : ℤ) (k : ℕ) → 1 ≤ B → k ≤ B → InRange s B x → rotated_left s B (rotated_right s B x k) k ≡ x
left-undoes_right s B x k h g f =
    let n = length-bits B x in
    by-bits _ _ _ _ _ (rotl-is s B _ k) (of-bits s B x h f) (ap (λ (l : List Bool). slice_rotate_right l k) (bits-rotr s B x k) ∙ rotl-rotr (bits B x) k (omega arith))

pub rotated_left-as_shifts : (B : ℕ) (x : ℤ) (k : ℕ) → k ≤ B
    → rotated_left false B x k ≡ bitwise_or false B (shifted_left false B x k) (shifted_right false B x (B - k))
rotated_left-as_shifts B x k h =
    let n = length-bits B x in
    by-bits _ _ _ _ _ (rotl-is false B x k) (or-is false B _ _)
    (rotl-shifts (bits B x) k (omega arith)
    ∙ ap (λ (i : ℕ). bits_or (shl (bits B x) k) (shr (bits B x) (i - k) false)) n
    ∙ sym (ap₂ bits_or (bits-left false B x k h) (bits-right false B x (B - k) (omega arith))))

-- ---- numbers whose bits are alike

right-alike : (s : Bool) (B : ℕ) (x : ℤ) (k : ℕ) (b : Bool) → 1 ≤ B → k ≤ B → InRange s B x → bits B x ≡ replicate B b → rotated_right s B x k ≡ x
right-alike s B x k b h g f e =
    by-bits _ _ _ _ _ (rotr-is s B x k) (of-bits s B x h f) (ap (λ (l : List Bool). rotr l k) e ∙ rotr-alike B k b g ∙ sym e)

pub rotated_right-zero : (s : Bool) (B : ℕ) (k : ℕ) → 1 ≤ B → k ≤ B → rotated_right s B (pos 0) k ≡ pos 0
rotated_right-zero s B k h g = right-alike s B (pos 0) k false h g (zero-in_range s B) (bits-zero B)

pub rotated_left-highest : (B : ℕ) (x : ℤ) (k : ℕ) → 1 ≤ B → InRange false B x → x ≡ pos (2 ^ B) -ℤ pos 1 → rotated_left false B x k ≡ x
rotated_left-highest B x k h f e = left-alike false B x k true h f (ap (bits B) e ∙ bits-highest B)

pub rotated_right-highest : (B : ℕ) (x : ℤ) (k : ℕ) → 1 ≤ B → InRange false B x → x ≡ pos (2 ^ B) -ℤ pos 1 → k ≤ B → rotated_right false B x k ≡ x
rotated_right-highest B x k h f e g = right-alike false B x k true h g f (ap (bits B) e ∙ bits-highest B)

pub reversed-highest : (B : ℕ) (x : ℤ) → 1 ≤ B → InRange false B x → x ≡ pos (2 ^ B) -ℤ pos 1 → reversed false B x ≡ x
reversed-highest B x h f e = turned-alike false B x true h f (ap (bits B) e ∙ bits-highest B)

pub rotated_left-minus_one : (B : ℕ) (k : ℕ) → 1 ≤ B → rotated_left true B (negsuc 0) k ≡ negsuc 0
rotated_left-minus_one B k h = left-alike true B (negsuc 0) k true h (minus_one-in_range B) (bits-minus_one B)

pub rotated_right-minus_one : (B : ℕ) (k : ℕ) → 1 ≤ B → k ≤ B → rotated_right true B (negsuc 0) k ≡ negsuc 0
rotated_right-minus_one B k h g = right-alike true B (negsuc 0) k true h g (minus_one-in_range B) (bits-minus_one B)

pub reversed-minus_one : (B : ℕ) → 1 ≤ B → reversed true B (negsuc 0) ≡ negsuc 0
reversed-minus_one B h = turned-alike true B (negsuc 0) true h (minus_one-in_range B) (bits-minus_one B)

pub rotated_right-not_zero : (s : Bool) (B : ℕ) (k : ℕ) → 1 ≤ B → k ≤ B → rotated_right s B (bitwise_not s B (pos 0)) k ≡ bitwise_not s B (pos 0)
rotated_right-not_zero s B k h g = right-alike s B (bitwise_not s B (pos 0)) k true h g (not-in_range s B (pos 0) h) (bits-not_zero s B)

-- ---- with the other operations

pub rotated_right-and : (s : Bool) (B : ℕ) (x y : ℤ) (k : ℕ) → rotated_right s B (bitwise_and s B x y) k ≡ bitwise_and s B (rotated_right s B x k) (rotated_right s B y k)
rotated_right-and s B x y k =
    by-bits _ _ _ _ _ (rotr-is s B _ k) (and-is s B _ _)
    (ap (λ (l : List Bool). rotr l k) (bits-and s B x y) ∙ rotr-pointwise (λ a b. a && b) k (bits B x) (bits B y) (same_length B x y)
    ∙ sym (ap₂ bits_and (bits-rotr s B x k) (bits-rotr s B y k)))

pub rotated_right-or : (s : Bool) (B : ℕ) (x y : ℤ) (k : ℕ) → rotated_right s B (bitwise_or s B x y) k ≡ bitwise_or s B (rotated_right s B x k) (rotated_right s B y k)
rotated_right-or s B x y k =
    by-bits _ _ _ _ _ (rotr-is s B _ k) (or-is s B _ _)
    (ap (λ (l : List Bool). rotr l k) (bits-or s B x y) ∙ rotr-pointwise (λ a b. a || b) k (bits B x) (bits B y) (same_length B x y)
    ∙ sym (ap₂ bits_or (bits-rotr s B x k) (bits-rotr s B y k)))

pub rotated_right-xor : (s : Bool) (B : ℕ) (x y : ℤ) (k : ℕ) → rotated_right s B (bitwise_xor s B x y) k ≡ bitwise_xor s B (rotated_right s B x k) (rotated_right s B y k)
rotated_right-xor s B x y k =
    by-bits _ _ _ _ _ (rotr-is s B _ k) (xor-is s B _ _)
    (ap (λ (l : List Bool). rotr l k) (bits-xor s B x y) ∙ rotr-pointwise (λ a b. not (beq a b)) k (bits B x) (bits B y) (same_length B x y)
    ∙ sym (ap₂ bits_xor (bits-rotr s B x k) (bits-rotr s B y k)))

pub rotated_right-not : (s : Bool) (B : ℕ) (x : ℤ) (k : ℕ) → rotated_right s B (bitwise_not s B x) k ≡ bitwise_not s B (rotated_right s B x k)
rotated_right-not s B x k =
    by-bits _ _ _ _ _ (rotr-is s B _ k) (not-is s B _)
    (ap (λ (l : List Bool). rotr l k) (bits-not s B x) ∙ not-rotr k (bits B x) ∙ sym (ap (map not) (bits-rotr s B x k)))

pub reversed-twice : (s : Bool) (B : ℕ) (x : ℤ) → 1 ≤ B → InRange s B x → reversed s B (reversed s B x) ≡ x
reversed-twice s B x h f =
    by-bits _ _ _ _ _ (reversed-is s B _) (of-bits s B x h f) (ap reverse (bits-reversed s B x) ∙ reverse-reverse (bits B x))

pub reversed-rotated_right : (s : Bool) (B : ℕ) (x : ℤ) (k : ℕ) → k ≤ B → reversed s B (rotated_right s B x k) ≡ rotated_left s B (reversed s B x) k
reversed-rotated_right s B x k h =
    let n = length-bits B x in
    by-bits _ _ _ _ _ (reversed-is s B _) (rotl-is s B _ k)
    (ap reverse (bits-rotr s B x k) ∙ reverse-rotr (bits B x) k (omega arith) ∙ ap (λ (l : List Bool). slice_rotate_right l k) (sym (bits-reversed s B x)))

pub reversed-shifted_right : (B : ℕ) (x : ℤ) (k : ℕ) → k ≤ B → reversed false B (shifted_right false B x k) ≡ shifted_left false B (reversed false B x) k
reversed-shifted_right B x k h =
    let n = length-bits B x in
    by-bits _ _ _ _ _ (reversed-is false B _) (left-is false B _ k)
    (ap reverse (bits-right false B x k h) ∙ reverse-shr (bits B x) k (omega arith) ∙ ap (λ (l : List Bool). shl l k) (sym (bits-reversed false B x)))
