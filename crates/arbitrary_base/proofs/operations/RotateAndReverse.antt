-- The laws of rotations and of the reversal on the numbers of a type.
use Rattle.std.specs.Bool.{beq}
use Rattle.std.specs.List.{slice_rotate_right}
use Rattle.std.specs.Prelude.{Bool, List, false, map, not, pos, replicate, reverse, true, ℕ, ℤ, ◌&&◌, ◌++◌, ◌+◌, ◌-◌, ◌||◌, ◌≡◌, ◌≤◌}
use Rattle.std.proofs.Common.{ap, ap₂, arith, sym, ◌∙◌}
use Rattle.std.proofs.lemmas.List.{drop-replicate, length-replicate, replicate-append-replicate, take-replicate}
use Rattle.arbitrary_base.specs.BitList.{bits, bits_and, bits_or, bits_xor, shr}
use Rattle.arbitrary_base.proofs.bit_lists.Movement.{rotr}
use Rattle.arbitrary_base.specs.Operation.{bitwise_and, bitwise_not, bitwise_or, bitwise_xor, reversed, rotated_left, rotated_right, shifted_left, shifted_right}
use Rattle.arbitrary_base.specs.Range.{InRange}
use Rattle.arbitrary_base.proofs.bit_lists.Pointwise.{not-reverse, not-rotl, reverse-pointwise, rotl-pointwise}
use Rattle.arbitrary_base.proofs.bit_lists.Rotation.{reverse-alike, reverse-rotl, reverse-shl, rotl-none, rotr-as_rotl, rotr-none}
use Rattle.arbitrary_base.proofs.bit_lists.UnsignedNumber.{length-bits, same_length}
use Rattle.arbitrary_base.proofs.operations.Definition.{and-is, bits-and, bits-left, bits-not, bits-not_zero, bits-or, bits-reversed, bits-rotl, bits-xor, bits-zero, by-bits, not-in_range, not-is, of-bits, or-is, reversed-is, right-is, rotl-is, rotr-is, xor-is, zero-in_range}

-- ---- rotations one after the other

pub rotated_left-none : (s : Bool) (B : ℕ) (x : ℤ) → 1 ≤ B → InRange s B x → rotated_left s B x 0 ≡ x
rotated_left-none s B x h f = by-bits _ _ _ _ _ (rotl-is s B x 0) (of-bits s B x h f) (rotl-none (bits B x))

pub rotated_right-none : (s : Bool) (B : ℕ) (x : ℤ) → 1 ≤ B → InRange s B x → rotated_right s B x 0 ≡ x
rotated_right-none s B x h f = by-bits _ _ _ _ _ (rotr-is s B x 0) (of-bits s B x h f) (rotr-none (bits B x))

pub rotated_right-as_left : (s : Bool) (B : ℕ) (x : ℤ) (k : ℕ) → k ≤ B → rotated_right s B x k ≡ rotated_left s B x (B - k)
rotated_right-as_left s B x k h =
    let n = length-bits B x in
    by-bits _ _ _ _ _ (rotr-is s B x k) (rotl-is s B x (B - k))
    (rotr-as_rotl (bits B x) k (omega arith) ∙ ap (λ (i : ℕ). slice_rotate_right (bits B x) (i - k)) n)

-- ---- numbers whose bits are alike

pub rotr-alike : (n k : ℕ) (b : Bool) → k ≤ n → rotr (replicate n b) k ≡ replicate n b
rotr-alike n k b h =
    ap₂ (λ (p q : List Bool). p ++ q) (drop-replicate k n b) (take-replicate k n b h)
    ∙ replicate-append-replicate (n - k) k b ∙ ap (λ (i : ℕ). replicate i b) (let e : (n - k) + k ≡ n = omega arith in e)

rotl-alike : (n k : ℕ) (b : Bool) → slice_rotate_right (replicate n b) k ≡ replicate n b
rotl-alike n k b =
    ap (λ (i : ℕ). rotr (replicate n b) (i - k)) (length-replicate n b) ∙ rotr-alike n (n - k) b (omega arith)

pub left-alike : (s : Bool) (B : ℕ) (x : ℤ) (k : ℕ) (b : Bool) → 1 ≤ B → InRange s B x → bits B x ≡ replicate B b → rotated_left s B x k ≡ x
left-alike s B x k b h f e =
    by-bits _ _ _ _ _ (rotl-is s B x k) (of-bits s B x h f) (ap (λ (l : List Bool). slice_rotate_right l k) e ∙ rotl-alike B k b ∙ sym e)

pub turned-alike : (s : Bool) (B : ℕ) (x : ℤ) (b : Bool) → 1 ≤ B → InRange s B x → bits B x ≡ replicate B b → reversed s B x ≡ x
turned-alike s B x b h f e =
    by-bits _ _ _ _ _ (reversed-is s B x) (of-bits s B x h f) (ap reverse e ∙ reverse-alike B b ∙ sym e)

pub rotated_left-zero : (s : Bool) (B : ℕ) (k : ℕ) → 1 ≤ B → rotated_left s B (pos 0) k ≡ pos 0
rotated_left-zero s B k h = left-alike s B (pos 0) k false h (zero-in_range s B) (bits-zero B)

pub reversed-zero : (s : Bool) (B : ℕ) → 1 ≤ B → reversed s B (pos 0) ≡ pos 0
reversed-zero s B h = turned-alike s B (pos 0) false h (zero-in_range s B) (bits-zero B)

pub rotated_left-not_zero : (s : Bool) (B : ℕ) (k : ℕ) → 1 ≤ B → rotated_left s B (bitwise_not s B (pos 0)) k ≡ bitwise_not s B (pos 0)
rotated_left-not_zero s B k h = left-alike s B (bitwise_not s B (pos 0)) k true h (not-in_range s B (pos 0) h) (bits-not_zero s B)

pub reversed-not_zero : (s : Bool) (B : ℕ) → 1 ≤ B → reversed s B (bitwise_not s B (pos 0)) ≡ bitwise_not s B (pos 0)
reversed-not_zero s B h = turned-alike s B (bitwise_not s B (pos 0)) true h (not-in_range s B (pos 0) h) (bits-not_zero s B)

-- ---- with the other operations

pub rotated_left-and : (s : Bool) (B : ℕ) (x y : ℤ) (k : ℕ) → rotated_left s B (bitwise_and s B x y) k ≡ bitwise_and s B (rotated_left s B x k) (rotated_left s B y k)
rotated_left-and s B x y k =
    by-bits _ _ _ _ _ (rotl-is s B _ k) (and-is s B _ _)
    (ap (λ (l : List Bool). slice_rotate_right l k) (bits-and s B x y) ∙ rotl-pointwise (λ a b. a && b) k (bits B x) (bits B y) (same_length B x y)
    ∙ sym (ap₂ bits_and (bits-rotl s B x k) (bits-rotl s B y k)))

pub rotated_left-or : (s : Bool) (B : ℕ) (x y : ℤ) (k : ℕ) → rotated_left s B (bitwise_or s B x y) k ≡ bitwise_or s B (rotated_left s B x k) (rotated_left s B y k)
rotated_left-or s B x y k =
    by-bits _ _ _ _ _ (rotl-is s B _ k) (or-is s B _ _)
    (ap (λ (l : List Bool). slice_rotate_right l k) (bits-or s B x y) ∙ rotl-pointwise (λ a b. a || b) k (bits B x) (bits B y) (same_length B x y)
    ∙ sym (ap₂ bits_or (bits-rotl s B x k) (bits-rotl s B y k)))

pub rotated_left-xor : (s : Bool) (B : ℕ) (x y : ℤ) (k : ℕ) → rotated_left s B (bitwise_xor s B x y) k ≡ bitwise_xor s B (rotated_left s B x k) (rotated_left s B y k)
rotated_left-xor s B x y k =
    by-bits _ _ _ _ _ (rotl-is s B _ k) (xor-is s B _ _)
    (ap (λ (l : List Bool). slice_rotate_right l k) (bits-xor s B x y) ∙ rotl-pointwise (λ a b. not (beq a b)) k (bits B x) (bits B y) (same_length B x y)
    ∙ sym (ap₂ bits_xor (bits-rotl s B x k) (bits-rotl s B y k)))

pub rotated_left-not : (s : Bool) (B : ℕ) (x : ℤ) (k : ℕ) → rotated_left s B (bitwise_not s B x) k ≡ bitwise_not s B (rotated_left s B x k)
rotated_left-not s B x k =
    by-bits _ _ _ _ _ (rotl-is s B _ k) (not-is s B _)
    (ap (λ (l : List Bool). slice_rotate_right l k) (bits-not s B x) ∙ not-rotl k (bits B x) ∙ sym (ap (map not) (bits-rotl s B x k)))

pub reversed-and : (s : Bool) (B : ℕ) (x y : ℤ) → reversed s B (bitwise_and s B x y) ≡ bitwise_and s B (reversed s B x) (reversed s B y)
reversed-and s B x y =
    by-bits _ _ _ _ _ (reversed-is s B _) (and-is s B _ _)
    (ap reverse (bits-and s B x y) ∙ reverse-pointwise (λ a b. a && b) (bits B x) (bits B y) (same_length B x y)
    ∙ sym (ap₂ bits_and (bits-reversed s B x) (bits-reversed s B y)))

pub reversed-or : (s : Bool) (B : ℕ) (x y : ℤ) → reversed s B (bitwise_or s B x y) ≡ bitwise_or s B (reversed s B x) (reversed s B y)
reversed-or s B x y =
    by-bits _ _ _ _ _ (reversed-is s B _) (or-is s B _ _)
    (ap reverse (bits-or s B x y) ∙ reverse-pointwise (λ a b. a || b) (bits B x) (bits B y) (same_length B x y)
    ∙ sym (ap₂ bits_or (bits-reversed s B x) (bits-reversed s B y)))

pub reversed-xor : (s : Bool) (B : ℕ) (x y : ℤ) → reversed s B (bitwise_xor s B x y) ≡ bitwise_xor s B (reversed s B x) (reversed s B y)
reversed-xor s B x y =
    by-bits _ _ _ _ _ (reversed-is s B _) (xor-is s B _ _)
    (ap reverse (bits-xor s B x y) ∙ reverse-pointwise (λ a b. not (beq a b)) (bits B x) (bits B y) (same_length B x y)
    ∙ sym (ap₂ bits_xor (bits-reversed s B x) (bits-reversed s B y)))

pub reversed-not : (s : Bool) (B : ℕ) (x : ℤ) → reversed s B (bitwise_not s B x) ≡ bitwise_not s B (reversed s B x)
reversed-not s B x =
    by-bits _ _ _ _ _ (reversed-is s B _) (not-is s B _)
    (ap reverse (bits-not s B x) ∙ not-reverse (bits B x) ∙ sym (ap (map not) (bits-reversed s B x)))

pub reversed-rotated_left : (s : Bool) (B : ℕ) (x : ℤ) (k : ℕ) → k ≤ B → reversed s B (rotated_left s B x k) ≡ rotated_right s B (reversed s B x) k
reversed-rotated_left s B x k h =
    let n = length-bits B x in
    by-bits _ _ _ _ _ (reversed-is s B _) (rotr-is s B _ k)
    (ap reverse (bits-rotl s B x k) ∙ reverse-rotl (bits B x) k (omega arith) ∙ ap (λ (l : List Bool). rotr l k) (sym (bits-reversed s B x)))

pub reversed-shifted_left : (B : ℕ) (x : ℤ) (k : ℕ) → k ≤ B → reversed false B (shifted_left false B x k) ≡ shifted_right false B (reversed false B x) k
reversed-shifted_left B x k h =
    let n = length-bits B x in
    by-bits _ _ _ _ _ (reversed-is false B _) (right-is false B _ k)
    (ap reverse (bits-left false B x k h) ∙ reverse-shl (bits B x) k (omega arith) ∙ ap (λ (l : List Bool). shr l k false) (sym (bits-reversed false B x)))
