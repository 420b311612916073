-- Shifts, rotations and the reversal of bit lists, one after another. `Movement` has each alone;
-- `operations.RotateAndReverse` and `operations.Shift` have the same for numbers.
use Rattle.std.specs.List.{slice_rotate_right}
use Rattle.std.specs.Prelude.{Bool, List, [], drop, false, length, replicate, reverse, suc, take, true, zero, ℕ, ◌&&◌, ◌++◌, ◌+◌, ◌-◌, ◌∷◌, ◌≡◌, ◌≤◌}
use Rattle.std.proofs.Common.{ap, ap₂, arith, length-drop, refl, sym, take-append-drop, ◌∙◌}
use Rattle.std.proofs.Math.Seq.{drop-append_seam, drop-length, take-append_seam, take-length}
use Rattle.std.proofs.lemmas.List.{append-nil, drop-replicate, length-replicate, length-reverse, length-take-le, replicate-append-replicate, reverse-append, take-replicate}
use Rattle.arbitrary_base.specs.BitList.{bits_and, shl, shr}
use Rattle.arbitrary_base.proofs.bit_lists.Movement.{length-shr, reverse-cons, rotr}
use Rattle.arbitrary_base.proofs.bit_lists.Pointwise.{and-ones, and-zeros, append-pointwise}

-- ---- rotations

pub rotr-whole : (l : List Bool) (k : ℕ) → k ≡ length l → rotr l k ≡ l
rotr-whole l k e = ap (rotr l) e ∙ ap₂ (λ (p q : List Bool). p ++ q) (drop-length l) (take-length l)

pub rotr-none : (l : List Bool) → rotr l 0 ≡ l
rotr-none l = append-nil l

pub rotl-none : (l : List Bool) → slice_rotate_right l 0 ≡ l
rotl-none l = rotr-whole l (length l - 0) (omega arith)

pub rotr-as_rotl : (l : List Bool) (k : ℕ) → k ≤ length l → rotr l k ≡ slice_rotate_right l (length l - k)
rotr-as_rotl l k h = ap (rotr l) (let e : k ≡ length l - (length l - k) = omega arith in e)

-- ---- shifts

pub shl-none : (l : List Bool) → shl l 0 ≡ l
shl-none l = ap (λ (i : ℕ). take i l) (let e : length l - 0 ≡ length l = omega arith in e) ∙ take-length l

pub shr-none : (l : List Bool) (f : Bool) → shr l 0 f ≡ l
shr-none l f = append-nil l

-- ---- shifts with the other operations

-- right and left again clears the low bits
pub shr-shl : (l : List Bool) (k : ℕ) (f : Bool) → k ≤ length l → shl (shr l k f) k ≡ bits_and l (shl (replicate (length l) true) k)
shr-shl l k f h =
    let n : length (shr l k f) ≡ length l = length-shr l k f h in
    let d : length (drop k l) ≡ length l - k = length-drop k l in
    let t : length (take k l) ≡ k = length-take-le k l h in
    let stays : take (length l - k) (shr l k f) ≡ drop k l =
    ap (λ (i : ℕ). take i (shr l k f)) (sym d) ∙ take-append_seam (drop k l) (replicate k f) in
    let ones : shl (replicate (length l) true) k ≡ replicate k false ++ replicate (length l - k) true =
    ap (λ (i : ℕ). replicate k false ++ take (i - k) (replicate (length l) true)) (length-replicate (length l) true)
    ∙ ap (λ (m : List Bool). replicate k false ++ m) (take-replicate (length l - k) (length l) true (omega arith)) in
    let low : bits_and (take k l) (replicate k false) ≡ replicate k false =
    ap (λ (i : ℕ). bits_and (take k l) (replicate i false)) (sym t) ∙ and-zeros (take k l) ∙ ap (λ (i : ℕ). replicate i false) t in
    let high : bits_and (drop k l) (replicate (length l - k) true) ≡ drop k l =
    ap (λ (i : ℕ). bits_and (drop k l) (replicate i true)) (sym d) ∙ and-ones (drop k l) in
    ap (λ (i : ℕ). replicate k false ++ take (i - k) (shr l k f)) n
    ∙ ap (λ (m : List Bool). replicate k false ++ m) stays
    ∙ sym (ap₂ bits_and (sym (take-append-drop k l)) ones
    ∙ append-pointwise (λ a b. a && b) (take k l) (drop k l) (replicate k false) (replicate (length l - k) true) (t ∙ sym (length-replicate k false))
    ∙ ap₂ (λ (p q : List Bool). p ++ q) low high)

-- left and right again clears the high ones
pub shl-shr : (l : List Bool) (k : ℕ) → k ≤ length l → shr (shl l k) k false ≡ bits_and l (shr (replicate (length l) true) k false)
shl-shr l k h =
    let d : length (drop (length l - k) l) ≡ k = length-drop (length l - k) l ∙ (let e : length l - (length l - k) ≡ k = omega arith in e) in
    let t : length (take (length l - k) l) ≡ length l - k = length-take-le (length l - k) l (omega arith) in
    let stays : drop k (shl l k) ≡ take (length l - k) l =
    ap (λ (i : ℕ). drop i (shl l k)) (sym (length-replicate k false)) ∙ drop-append_seam (replicate k false) (take (length l - k) l) in
    let ones : shr (replicate (length l) true) k false ≡ replicate (length l - k) true ++ replicate k false =
    ap (λ (m : List Bool). m ++ replicate k false) (drop-replicate k (length l) true) in
    let low : bits_and (take (length l - k) l) (replicate (length l - k) true) ≡ take (length l - k) l =
    ap (λ (i : ℕ). bits_and (take (length l - k) l) (replicate i true)) (sym t) ∙ and-ones (take (length l - k) l) in
    let high : bits_and (drop (length l - k) l) (replicate k false) ≡ replicate k false =
    ap (λ (i : ℕ). bits_and (drop (length l - k) l) (replicate i false)) (sym d) ∙ and-zeros (drop (length l - k) l) ∙ ap (λ (i : ℕ). replicate i false) d in
    ap (λ (m : List Bool). m ++ replicate k false) stays
    ∙ sym (ap₂ bits_and (sym (take-append-drop (length l - k) l)) ones
    ∙ append-pointwise (λ a b. a && b) (take (length l - k) l) (drop (length l - k) l) (replicate (length l - k) true) (replicate k false) (t ∙ sym (length-replicate (length l - k) true))
    ∙ ap₂ (λ (p q : List Bool). p ++ q) low high)

-- ---- reversal

reverse-parts : (l : List Bool) (k : ℕ) → reverse l ≡ reverse (drop k l) ++ reverse (take k l)
reverse-parts l k = ap reverse (sym (take-append-drop k l)) ∙ reverse-append (take k l) (drop k l)

pub reverse-rotr : (l : List Bool) (k : ℕ) → k ≤ length l → reverse (rotr l k) ≡ slice_rotate_right (reverse l) k
reverse-rotr l k h =
    let n : length (reverse (drop k l)) ≡ length (reverse l) - k = length-reverse (drop k l) ∙ length-drop k l ∙ ap (λ (i : ℕ). i - k) (sym (length-reverse l)) in
    reverse-append (drop k l) (take k l)
    ∙ sym (ap (λ (i : ℕ). rotr (reverse l) i) (sym n) ∙ ap (λ (m : List Bool). rotr m (length (reverse (drop k l)))) (reverse-parts l k)
    ∙ ap₂ (λ (p q : List Bool). p ++ q) (drop-append_seam (reverse (drop k l)) (reverse (take k l))) (take-append_seam (reverse (drop k l)) (reverse (take k l))))

pub reverse-rotl : (l : List Bool) (k : ℕ) → k ≤ length l → reverse (slice_rotate_right l k) ≡ rotr (reverse l) k
reverse-rotl l k h =
    let n = length-reverse l in
    reverse-rotr l (length l - k) (omega arith)
    ∙ ap (rotr (reverse l)) (let e : length (reverse l) - (length l - k) ≡ k = omega arith in e)

pub reverse-alike : (k : ℕ) (b : Bool) → reverse (replicate k b) ≡ replicate k b
reverse-alike zero b = refl
reverse-alike (suc k) b =
    reverse-cons b (replicate k b) ∙ ap (λ (m : List Bool). m ++ b ∷ []) (reverse-alike k b)
    ∙ replicate-append-replicate k 1 b ∙ ap (λ (i : ℕ). replicate i b) (let e : k + 1 ≡ suc k = omega arith in e)

pub reverse-shl : (l : List Bool) (k : ℕ) → k ≤ length l → reverse (shl l k) ≡ shr (reverse l) k false
reverse-shl l k h =
    let d : length (reverse (drop (length l - k) l)) ≡ k =
    length-reverse (drop (length l - k) l) ∙ length-drop (length l - k) l ∙ (let e : length l - (length l - k) ≡ k = omega arith in e) in
    reverse-append (replicate k false) (take (length l - k) l)
    ∙ ap (λ (m : List Bool). reverse (take (length l - k) l) ++ m) (reverse-alike k false)
    ∙ sym (ap (λ (m : List Bool). m ++ replicate k false)
    (ap (drop k) (reverse-parts l (length l - k)) ∙ ap (λ (i : ℕ). drop i (reverse (drop (length l - k) l) ++ reverse (take (length l - k) l))) (sym d)
    ∙ drop-append_seam (reverse (drop (length l - k) l)) (reverse (take (length l - k) l))))
