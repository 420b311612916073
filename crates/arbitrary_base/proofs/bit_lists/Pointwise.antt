-- Bit lists combined item by item with any operation, and the laws of `and`, `or`, `xor` and `not` on them.
use Rattle.std.specs.List.{slice_rotate_right, zip}
use Rattle.std.specs.Prelude.{Bool, List, [], drop, false, get_or, length, map, not, replicate, reverse, suc, take, true, zero, ℕ, ◌++◌, ◌-◌, ◌∷◌, ◌≡◌}
use Rattle.std.proofs.Common.{ap, ap₂, arith, length-drop, refl, sym, ◌∙◌}
use Rattle.std.proofs.lemmas.List.{drop-map, length-reverse, map-append, take-map}
use Rattle.arbitrary_base.specs.BitList.{bits_and, shl, shr}
use Rattle.arbitrary_base.proofs.bit_lists.Movement.{reverse-cons, rotr}
use Rattle.arbitrary_base.proofs.bit_lists.UnsignedNumber.{length-not}

-- `bits_and`, `bits_or` and `bits_xor` are this
abbrev pub pointwise : (Bool → Bool → Bool) → List Bool → List Bool → List Bool
pointwise f l m = map (λ (p : Bool × Bool). f p.0 p.1) (zip l m)

pub length-pointwise : (f : Bool → Bool → Bool) (l m : List Bool) → length l ≡ length m → length (pointwise f l m) ≡ length l
length-pointwise f [] m e = refl
length-pointwise f (a ∷ l) [] e = absurd (omega arith)
length-pointwise f (a ∷ l) (b ∷ m) e = ap suc (length-pointwise f l m (omega arith))

-- the item at a place, also past the end
pub get_or-pointwise : (f : Bool → Bool → Bool) (i : ℕ) (l m : List Bool) → f false false ≡ false → length l ≡ length m
    → get_or (pointwise f l m) i false ≡ f (get_or l i false) (get_or m i false)
get_or-pointwise f i [] [] z e = sym z
get_or-pointwise f i [] (b ∷ m) z e = absurd (omega arith)
get_or-pointwise f i (a ∷ l) [] z e = absurd (omega arith)
get_or-pointwise f zero (a ∷ l) (b ∷ m) z e = refl
get_or-pointwise f (suc i) (a ∷ l) (b ∷ m) z e = get_or-pointwise f i l m z (omega arith)

-- ---- parts

pub append-pointwise : (f : Bool → Bool → Bool) (l m p q : List Bool) → length l ≡ length p → pointwise f (l ++ m) (p ++ q) ≡ pointwise f l p ++ pointwise f m q
append-pointwise f [] m [] q e = refl
append-pointwise f [] m (b ∷ p) q e = absurd (omega arith)
append-pointwise f (a ∷ l) m [] q e = absurd (omega arith)
append-pointwise f (a ∷ l) m (b ∷ p) q e = ap (λ (r : List Bool). f a b ∷ r) (append-pointwise f l m p q (omega arith))

take-pointwise : (f : Bool → Bool → Bool) (k : ℕ) (l m : List Bool) → take k (pointwise f l m) ≡ pointwise f (take k l) (take k m)
take-pointwise f zero l m = refl
take-pointwise f (suc k) [] m = refl
take-pointwise f (suc k) (a ∷ l) [] = refl
take-pointwise f (suc k) (a ∷ l) (b ∷ m) = ap (λ (r : List Bool). f a b ∷ r) (take-pointwise f k l m)

drop-pointwise : (f : Bool → Bool → Bool) (k : ℕ) (l m : List Bool) → length l ≡ length m → drop k (pointwise f l m) ≡ pointwise f (drop k l) (drop k m)
drop-pointwise f zero l m e = refl
drop-pointwise f (suc k) [] [] e = refl
drop-pointwise f (suc k) [] (b ∷ m) e = absurd (omega arith)
drop-pointwise f (suc k) (a ∷ l) [] e = absurd (omega arith)
drop-pointwise f (suc k) (a ∷ l) (b ∷ m) e = drop-pointwise f k l m (omega arith)

replicate-pointwise : (f : Bool → Bool → Bool) (k : ℕ) (a b : Bool) → pointwise f (replicate k a) (replicate k b) ≡ replicate k (f a b)
replicate-pointwise f zero a b = refl
replicate-pointwise f (suc k) a b = ap (λ (r : List Bool). f a b ∷ r) (replicate-pointwise f k a b)

-- ---- shifts, rotations and reversal

pub shl-pointwise : (f : Bool → Bool → Bool) (k : ℕ) (l m : List Bool) → f false false ≡ false → length l ≡ length m
    → shl (pointwise f l m) k ≡ pointwise f (shl l k) (shl m k)
shl-pointwise f k l m z e =
    let n = length-pointwise f l m e in
    let h : length (replicate k false) ≡ length (replicate k false) = refl in
    ap (λ (i : ℕ). replicate k false ++ take (i - k) (pointwise f l m)) n
    ∙ ap₂ (λ (p q : List Bool). p ++ q) (sym (replicate-pointwise f k false false ∙ ap (replicate k) z)) (take-pointwise f (length l - k) l m)
    ∙ sym (append-pointwise f (replicate k false) (take (length l - k) l) (replicate k false) (take (length l - k) m) h)
    ∙ ap (λ (i : ℕ). pointwise f (shl l k) (replicate k false ++ take (i - k) m)) e

pub shr-pointwise : (f : Bool → Bool → Bool) (k : ℕ) (a b : Bool) (l m : List Bool) → length l ≡ length m
    → shr (pointwise f l m) k (f a b) ≡ pointwise f (shr l k a) (shr m k b)
shr-pointwise f k a b l m e =
    let h : length (drop k l) ≡ length (drop k m) = simp length-drop (omega arith) in
    ap₂ (λ (p q : List Bool). p ++ q) (drop-pointwise f k l m e) (sym (replicate-pointwise f k a b))
    ∙ sym (append-pointwise f (drop k l) (replicate k a) (drop k m) (replicate k b) h)

pub rotr-pointwise : (f : Bool → Bool → Bool) (k : ℕ) (l m : List Bool) → length l ≡ length m
    → rotr (pointwise f l m) k ≡ pointwise f (rotr l k) (rotr m k)
rotr-pointwise f k l m e =
    let h : length (drop k l) ≡ length (drop k m) = simp length-drop (omega arith) in
    ap₂ (λ (p q : List Bool). p ++ q) (drop-pointwise f k l m e) (take-pointwise f k l m)
    ∙ sym (append-pointwise f (drop k l) (take k l) (drop k m) (take k m) h)

pub rotl-pointwise : (f : Bool → Bool → Bool) (k : ℕ) (l m : List Bool) → length l ≡ length m
    → slice_rotate_right (pointwise f l m) k ≡ pointwise f (slice_rotate_right l k) (slice_rotate_right m k)
rotl-pointwise f k l m e =
    ap (λ (i : ℕ). rotr (pointwise f l m) (i - k)) (length-pointwise f l m e)
    ∙ rotr-pointwise f (length l - k) l m e
    ∙ ap (λ (i : ℕ). pointwise f (slice_rotate_right l k) (rotr m (i - k))) e

pub reverse-pointwise : (f : Bool → Bool → Bool) (l m : List Bool) → length l ≡ length m
    → reverse (pointwise f l m) ≡ pointwise f (reverse l) (reverse m)
reverse-pointwise f [] [] e = refl
reverse-pointwise f [] (b ∷ m) e = absurd (omega arith)
reverse-pointwise f (a ∷ l) [] e = absurd (omega arith)
reverse-pointwise f (a ∷ l) (b ∷ m) e =
    let d : length l ≡ length m = omega arith in
    let h : length (reverse l) ≡ length (reverse m) = length-reverse l ∙ d ∙ sym (length-reverse m) in
    reverse-cons (f a b) (pointwise f l m)
    ∙ ap (λ (r : List Bool). r ++ f a b ∷ []) (reverse-pointwise f l m d)
    ∙ sym (append-pointwise f (reverse l) (a ∷ []) (reverse m) (b ∷ []) h)
    ∙ ap₂ (pointwise f) (sym (reverse-cons a l)) (sym (reverse-cons b m))

pub not-rotr : (k : ℕ) (l : List Bool) → rotr (map not l) k ≡ map not (rotr l k)
not-rotr k l =
    ap₂ (λ (p q : List Bool). p ++ q) (drop-map not k l) (take-map not k l) ∙ sym (map-append not (drop k l) (take k l))

pub not-rotl : (k : ℕ) (l : List Bool) → slice_rotate_right (map not l) k ≡ map not (slice_rotate_right l k)
not-rotl k l = ap (λ (i : ℕ). rotr (map not l) (i - k)) (length-not l) ∙ not-rotr (length l - k) l

pub not-reverse : (l : List Bool) → reverse (map not l) ≡ map not (reverse l)
not-reverse [] = refl
not-reverse (a ∷ l) =
    reverse-cons (not a) (map not l) ∙ ap (λ (r : List Bool). r ++ not a ∷ []) (not-reverse l)
    ∙ sym (map-append not (reverse l) (a ∷ [])) ∙ ap (map not) (sym (reverse-cons a l))

-- ---- the laws of one operation that proofs over lists cite; operations/Expression.antt has those over numbers

pub cons : {a b : Bool} {l m : List Bool} → a ≡ b → l ≡ m → a ∷ l ≡ b ∷ m
cons e f = ap₂ (λ (x : Bool) (y : List Bool). x ∷ y) e f

pub and-comm : (l m : List Bool) → bits_and l m ≡ bits_and m l
and-comm [] [] = refl
and-comm [] (b ∷ m) = refl
and-comm (a ∷ l) [] = refl
and-comm (a ∷ l) (b ∷ m) = cons (grind arith) (and-comm l m)

pub and-zeros : (l : List Bool) → bits_and l (replicate (length l) false) ≡ replicate (length l) false
and-zeros [] = refl
and-zeros (a ∷ l) = cons (grind arith) (and-zeros l)

pub and-ones : (l : List Bool) → bits_and l (replicate (length l) true) ≡ l
and-ones [] = refl
and-ones (a ∷ l) = cons (grind arith) (and-ones l)

pub not-not : (l : List Bool) → map not (map not l) ≡ l
not-not [] = refl
not-not (a ∷ l) = cons (grind arith) (not-not l)
