-- Shifts, rotations, the reversal and parts of bit lists, each alone. `Rotation` has them one after another.
use Rattle.std.proofs.Common.{◌≡◌, ℕ, zero, suc, ◌+◌, ◌-◌, ◌*◌, ◌/◌, ◌%◌, ◌^◌, ◌≤◌, Bool, false, not, List, [], ◌∷◌, ◌++◌, reverse, length, take, drop, replicate, refl, sym, ap, ap₂, ◌∙◌, arith, length-append, length-drop, length-take, take-append-drop, drop-drop, take-take}
use Rattle.std.specs.Prelude.{map}
use Rattle.std.specs.List.{slice_rotate_right}
use Rattle.std.proofs.Math.Nat.{pow-suc, mul-mod_left}
use Rattle.std.proofs.Math.Pow.{mod-pow-add, shl-shr}
use Rattle.std.proofs.lemmas.List.{length-replicate, length-reverse, reverse-append, take_at, drop_at, drop-take, map-append, drop-map}
use Rattle.std.specs.Int.{reverse_bits_onto}
use Rattle.arbitrary_base.specs.BitList.{num, shl, shr}
use Rattle.arbitrary_base.proofs.bit_lists.UnsignedNumber.{digit, num-append, num-zeros, num-take, num-drop, cons-mod, cons-div}

-- l without its first k items, then these
abbrev pub rotr : List Bool → ℕ → List Bool
rotr l k = drop k l ++ take k l

-- ---- lengths

pub length-shl : (l : List Bool) (k : ℕ) → k ≤ length l → length (shl l k) ≡ length l
length-shl l k h = simp (length-append, length-replicate, length-take) (omega arith)

pub length-shr : (l : List Bool) (k : ℕ) (f : Bool) → k ≤ length l → length (shr l k f) ≡ length l
length-shr l k f h = simp (length-append, length-replicate, length-drop) (omega arith)

pub length-rotl : (l : List Bool) (k : ℕ) → length (slice_rotate_right l k) ≡ length l
length-rotl l k = simp (length-append, length-drop, length-take) (omega arith)

pub length-rotr : (l : List Bool) (k : ℕ) → length (rotr l k) ≡ length l
length-rotr l k = simp (length-append, length-drop, length-take) (omega arith)

pub length-items : (s k : ℕ) (l : List Bool) → s + k ≤ length l → length (take k (drop s l)) ≡ k
length-items s k l h = simp (length-drop, length-take) (omega arith)

-- ---- laws

pub rotr-rotl : (l : List Bool) (k : ℕ) → k ≤ length l → rotr (slice_rotate_right l k) k ≡ l
rotr-rotl l k h =
    let e : length (drop (length l - k) l) ≡ k = simp length-drop (omega arith) in
    rw (drop_at (drop (length l - k) l) (take (length l - k) l) k e, take_at (drop (length l - k) l) (take (length l - k) l) k e)
    (take-append-drop (length l - k) l)

pub items-items : (s t A B : ℕ) (l : List Bool) → t + A ≤ B → take A (drop t (take B (drop s l))) ≡ take A (drop (s + t) l)
items-items s t A B l h =
    ap (λ (n : ℕ). take A (drop t (take n (drop s l)))) (let e : B ≡ t + (B - t) = omega arith in e)
    ∙ ap (take A) (drop-take t (B - t) (drop s l) ∙ ap (take (B - t)) (drop-drop t s l))
    ∙ take-take A (B - t) (drop (s + t) l) (omega arith)

pub replicate-not : (k : ℕ) (f : Bool) → map not (replicate k f) ≡ replicate k (not f)
replicate-not zero f = refl
replicate-not (suc k) f = ap (λ (l : List Bool). not f ∷ l) (replicate-not k f)

pub shr-not : (l : List Bool) (k : ℕ) (f : Bool) → shr (map not l) k (not f) ≡ map not (shr l k f)
shr-not l k f =
    sym (map-append not (drop k l) (replicate k f) ∙ ap₂ (λ (x y : List Bool). x ++ y) (sym (drop-map not k l)) (replicate-not k f))

-- ---- as numbers

pub shl-mod : (n k w : ℕ) → k ≤ w → (n * 2 ^ k) % 2 ^ w ≡ n % 2 ^ (w - k) * 2 ^ k
shl-mod n k w h = ap (λ (x : ℕ). (n * 2 ^ k) % 2 ^ x) (let e : w ≡ (w - k) + k = omega arith in e) ∙ parts n (w - k) k
  where
    parts : (n j k : ℕ) → (n * 2 ^ k) % 2 ^ (j + k) ≡ n % 2 ^ j * 2 ^ k
    parts n j k = mod-pow-add (n * 2 ^ k) j k ∙ rw (shl-shr n k, mul-mod_left n (2 ^ k)) (omega arith)

pub num-shl : (l : List Bool) (k : ℕ) → k ≤ length l → num (shl l k) ≡ (num l * 2 ^ k) % 2 ^ length l
num-shl l k h =
    num-append (replicate k false) (take (length l - k) l)
    ∙ rw (num-zeros k, length-replicate k false, num-take (length l - k) l, shl-mod (num l) k (length l) h) (omega arith)

pub num-shr : (l : List Bool) (k : ℕ) → num (shr l k false) ≡ num l / 2 ^ k
num-shr l k = num-append (drop k l) (replicate k false) ∙ rw (num-zeros k, num-drop k l) (omega arith)

pub num-rotl : (l : List Bool) (k : ℕ) → k ≤ length l → num (slice_rotate_right l k) ≡ num l / 2 ^ (length l - k) + (num l * 2 ^ k) % 2 ^ length l
num-rotl l k h =
    num-append (drop (length l - k) l) (take (length l - k) l)
    ∙ rw (num-drop (length l - k) l, length-drop (length l - k) l, num-take (length l - k) l, shl-mod (num l) k (length l) h)
    (let e : length l - (length l - k) ≡ k = omega arith in rw e (omega arith))

pub num-rotr : (l : List Bool) (k : ℕ) → k ≤ length l → num (rotr l k) ≡ num l / 2 ^ k + (num l * 2 ^ (length l - k)) % 2 ^ length l
num-rotr l k h =
    let e : length l - (length l - k) ≡ k = omega arith in
    num-append (drop k l) (take k l)
    ∙ rw (num-drop k l, length-drop k l, num-take k l, shl-mod (num l) (length l - k) (length l) (omega arith), e) (omega arith)

pub reverse-cons : (b : Bool) (l : List Bool) → reverse (b ∷ l) ≡ reverse l ++ b ∷ []
reverse-cons b l = reverse-append (b ∷ []) l

onto-suc : (k n a : ℕ) → reverse_bits_onto (suc k) n a ≡ reverse_bits_onto k (n / 2) (a * 2 + n % 2)
unfolding reverse_bits_onto
onto-suc k n a = refl

pub num-reverse_onto : (l : List Bool) (a : ℕ) → reverse_bits_onto (length l) (num l) a ≡ a * 2 ^ length l + num (reverse l)
unfolding reverse_bits_onto
num-reverse_onto [] a = omega arith
num-reverse_onto (b ∷ l) a =
    rw (onto-suc (length l) (num (b ∷ l)) a, cons-div b (num l), cons-mod b (num l), num-reverse_onto l (a * 2 + digit b), reverse-cons b l, num-append (reverse l) (b ∷ []), length-reverse l, pow-suc 2 (length l))
    (omega arith)

pub num-reverse_zeros : (k : ℕ) → num (reverse (replicate k false)) ≡ 0
num-reverse_zeros zero = refl
num-reverse_zeros (suc k) =
    rw (reverse-cons false (replicate k false), num-append (reverse (replicate k false)) (false ∷ [])) (omega (arith, num-reverse_zeros k))
