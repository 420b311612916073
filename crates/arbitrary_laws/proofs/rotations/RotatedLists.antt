-- Rotations and shifts of lists of bits, for the laws of rotations and shifts of numbers.
use Rattle.std.specs.List.{slice_rotate_right}
use Rattle.std.specs.Prelude.{Bool, List, [], ◌∷◌, drop, false, length, replicate, reverse, take, ℕ, ℤ, ◌++◌, ◌+◌, ◌-◌, ◌||◌, ◌≡◌, ◌≤◌}
use Rattle.std.proofs.Common.{ap, ap₂, arith, length-drop, refl, sym, take-take, ◌∙◌}
use Rattle.std.proofs.Math.Seq.{take-add, take-append-add}
use Rattle.std.proofs.lemmas.List.{append_assoc, drop-append-le, drop-drop, length-replicate, length-reverse, length-take-le, replicate-append-replicate, reverse-reverse, take-append-le, take-replicate}
use Rattle.arbitrary_base.specs.BitList.{bits, bits_or, shl, shr}
use Rattle.arbitrary_base.specs.Operation.{rotated_right}
use Rattle.arbitrary_base.proofs.bit_lists.Movement.{length-rotl, length-rotr, length-shl, rotr}
use Rattle.arbitrary_base.proofs.bit_lists.Pointwise.{append-pointwise, cons}
use Rattle.arbitrary_base.proofs.bit_lists.Rotation.{reverse-shl, rotr-whole}
use Rattle.arbitrary_base.proofs.bit_lists.TwosComplement.{bits-val}
use Rattle.arbitrary_base.proofs.bit_lists.UnsignedNumber.{length-bits}
use Rattle.arbitrary_base.proofs.operations.Definition.{rotr-is}

or-comm : (l m : List Bool) → bits_or l m ≡ bits_or m l
or-comm [] [] = refl
or-comm [] (b ∷ m) = refl
or-comm (a ∷ l) [] = refl
or-comm (a ∷ l) (b ∷ m) = cons (grind arith) (or-comm l m)

or-zeros : (l : List Bool) → bits_or l (replicate (length l) false) ≡ l
or-zeros [] = refl
or-zeros (a ∷ l) = cons (grind arith) (or-zeros l)

-- ---- the bits of what it gives

pub bits-rotr : (s : Bool) (B : ℕ) (x : ℤ) (k : ℕ) → bits B (rotated_right s B x k) ≡ rotr (bits B x) k
bits-rotr s B x k = ap (bits B) (rotr-is s B x k) ∙ bits-val s B _ (length-rotr (bits B x) k ∙ length-bits B x)

-- ---- rotations

-- two rotations within one round
pub rotr-short : (l : List Bool) (a b : ℕ) → a + b ≤ length l → rotr (rotr l a) b ≡ rotr l (a + b)
rotr-short l a b h =
    let n : length (drop a l) ≡ length l - a = length-drop a l in
    ap₂ (λ (p q : List Bool). p ++ q)
    (drop-append-le b (drop a l) (take a l) (omega arith) ∙ ap (λ (p : List Bool). p ++ take a l) (drop-drop b a l))
    (take-append-le b (drop a l) (take a l) (omega arith))
    ∙ append_assoc (drop (a + b) l) (take a l) (take b (drop a l))
    ∙ ap (λ (p : List Bool). drop (a + b) l ++ p) (sym (take-add a b l))

-- and past its end
pub rotr-long : (l : List Bool) (a b : ℕ) → a ≤ length l → b ≤ length l → length l ≤ a + b → rotr (rotr l a) b ≡ rotr l (a + b - length l)
rotr-long l a b h g e =
    let n = length-rotr l a in
    let i : b ≡ (length l - a) + (a + b - length l) = omega arith in
    ap (rotr (rotr l a)) i
    ∙ sym (rotr-short (rotr l a) (length l - a) (a + b - length l) (omega arith))
    ∙ ap (λ (m : List Bool). rotr m (a + b - length l)) (rotr-short l a (length l - a) (omega arith) ∙ rotr-whole l (a + (length l - a)) (omega arith))

pub rotl-short : (l : List Bool) (a b : ℕ) → a + b ≤ length l → slice_rotate_right (slice_rotate_right l a) b ≡ slice_rotate_right l (a + b)
rotl-short l a b h =
    ap (λ (n : ℕ). rotr (slice_rotate_right l a) (n - b)) (length-rotl l a)
    ∙ rotr-long l (length l - a) (length l - b) (omega arith) (omega arith) (omega arith)
    ∙ ap (rotr l) (let e : (length l - a) + (length l - b) - length l ≡ length l - (a + b) = omega arith in e)

pub rotl-long : (l : List Bool) (a b : ℕ) → a ≤ length l → b ≤ length l → length l ≤ a + b → slice_rotate_right (slice_rotate_right l a) b ≡ slice_rotate_right l (a + b - length l)
rotl-long l a b h g e =
    ap (λ (n : ℕ). rotr (slice_rotate_right l a) (n - b)) (length-rotl l a)
    ∙ rotr-short l (length l - a) (length l - b) (omega arith)
    ∙ ap (rotr l) (let i : (length l - a) + (length l - b) ≡ length l - (a + b - length l) = omega arith in i)

-- ---- shifts

pub shl-twice : (l : List Bool) (a b : ℕ) → a + b ≤ length l → shl (shl l a) b ≡ shl l (a + b)
shl-twice l a b h =
    let n : length (shl l a) ≡ length l = length-shl l a (omega arith) in
    let r = length-replicate a false in
    let parts : take (length l - b) (shl l a) ≡ replicate a false ++ take (length l - (a + b)) l =
    ap (λ (k : ℕ). take k (shl l a)) (let e : length l - b ≡ length (replicate a false) + (length l - (a + b)) = omega arith in e)
    ∙ take-append-add (replicate a false) (take (length l - a) l) (length l - (a + b))
    ∙ ap (λ (m : List Bool). replicate a false ++ m) (take-take (length l - (a + b)) (length l - a) l (omega arith)) in
    ap (λ (k : ℕ). replicate b false ++ take (k - b) (shl l a)) n
    ∙ ap (λ (m : List Bool). replicate b false ++ m) parts
    ∙ sym (append_assoc (replicate b false) (replicate a false) (take (length l - (a + b)) l))
    ∙ ap (λ (m : List Bool). m ++ take (length l - (a + b)) l)
    (replicate-append-replicate b a false ∙ ap (λ (k : ℕ). replicate k false) (let e : b + a ≡ a + b = omega arith in e))

pub shl-past : (l : List Bool) (a b : ℕ) → a ≤ length l → b ≤ length l → length l ≤ a + b → shl (shl l a) b ≡ replicate (length l) false
shl-past l a b h g e =
    let n : length (shl l a) ≡ length l = length-shl l a h in
    let r = length-replicate a false in
    ap (λ (k : ℕ). replicate b false ++ take (k - b) (shl l a)) n
    ∙ ap (λ (m : List Bool). replicate b false ++ m)
    (take-append-le (length l - b) (replicate a false) (take (length l - a) l) (omega arith) ∙ take-replicate (length l - b) a false (omega arith))
    ∙ replicate-append-replicate b (length l - b) false
    ∙ ap (λ (k : ℕ). replicate k false) (let i : b + (length l - b) ≡ length l = omega arith in i)

-- ---- shifts with the other operations

pub rotl-shifts : (l : List Bool) (k : ℕ) → k ≤ length l → slice_rotate_right l k ≡ bits_or (shl l k) (shr l (length l - k) false)
rotl-shifts l k h =
    let d : length (drop (length l - k) l) ≡ k = length-drop (length l - k) l ∙ (let e : length l - (length l - k) ≡ k = omega arith in e) in
    let t : length (take (length l - k) l) ≡ length l - k = length-take-le (length l - k) l (omega arith) in
    let low : bits_or (replicate k false) (drop (length l - k) l) ≡ drop (length l - k) l =
    or-comm (replicate k false) (drop (length l - k) l)
    ∙ ap (λ (n : ℕ). bits_or (drop (length l - k) l) (replicate n false)) (sym d) ∙ or-zeros (drop (length l - k) l) in
    let high : bits_or (take (length l - k) l) (replicate (length l - k) false) ≡ take (length l - k) l =
    ap (λ (n : ℕ). bits_or (take (length l - k) l) (replicate n false)) (sym t) ∙ or-zeros (take (length l - k) l) in
    sym (append-pointwise (λ a b. a || b) (replicate k false) (take (length l - k) l) (drop (length l - k) l) (replicate (length l - k) false) (length-replicate k false ∙ sym d)
    ∙ ap₂ (λ (p q : List Bool). p ++ q) low high)

-- ---- reversal

pub reverse-shr : (l : List Bool) (k : ℕ) → k ≤ length l → reverse (shr l k false) ≡ shl (reverse l) k
reverse-shr l k h =
    let n = length-reverse l in
    ap (λ (m : List Bool). reverse (shr m k false)) (sym (reverse-reverse l))
    ∙ ap reverse (sym (reverse-shl (reverse l) k (omega arith))) ∙ reverse-reverse (shl (reverse l) k)
