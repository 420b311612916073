-- Calls that undo each other: a sum and a difference that wrap, the two rotations, the reversal, the same `xor`
-- twice, and the two conversions between types of one width and different signs.
use Rattle.std.specs.Prelude.{◌≡◌, ℕ, ℤ, Bool, List, [], ◌∷◌, true, false, not, neg_ℤ, ◌-◌, ◌≤◌, ◌+ℤ◌, ◌-ℤ◌, length, reverse, take, drop}
use Rattle.std.specs.List.{slice_rotate_right}
use Rattle.std.specs.Bool.{beq}
use Rattle.std.proofs.Common.{arith, refl, ap, ap₂, sym, ◌∙◌, length-drop, take-append-drop}
use Rattle.std.proofs.lemmas.Int.{ints}
use Rattle.std.proofs.lemmas.List.{length-reverse, reverse-reverse, take_at, drop_at}
use Rattle.arbitrary_base.specs.Range.{InRange}
use Rattle.arbitrary_base.specs.Residue.{wrap}
use Rattle.arbitrary_base.specs.BitList.{bits, val, bits_xor}
use Rattle.arbitrary_base.proofs.modular.Congruence.{Congruent-refl, Congruent-add}
use Rattle.arbitrary_base.proofs.modular.Residue.{wrap-congruent, wrap-of_in_range, wrap-same}
use Rattle.arbitrary_base.proofs.bit_lists.UnsignedNumber.{length-bits, same_length, length-xor}
use Rattle.arbitrary_base.proofs.bit_lists.Movement.{length-rotl, length-rotr, rotr-rotl, rotr}
use Rattle.arbitrary_base.proofs.bit_lists.TwosComplement.{bits-val, val-bits_in_range}
use Rattle.arbitrary_base.proofs.modular.ExactOrCongruent.{wrapped-congruent}

-- a sum that wrapped, and what was added, taken off again; and the other way
pub sub-undoes : (s : Bool) (B : ℕ) (x b r y : ℤ) → 1 ≤ B → InRange s B y → x ≡ wrap s B (y +ℤ b) → r ≡ wrap s B (x -ℤ b) → r ≡ y
sub-undoes s B x b r y h f e d =
    let c = Congruent-add B x (y +ℤ b) (neg_ℤ b) (neg_ℤ b) (wrapped-congruent s B (y +ℤ b) x e) (Congruent-refl B (neg_ℤ b)) in
    let i : x +ℤ neg_ℤ b ≡ x -ℤ b = omega (arith, ints) in
    let j : (y +ℤ b) +ℤ neg_ℤ b ≡ y = omega (arith, ints) in
    d ∙ ap (wrap s B) (sym i) ∙ wrap-same s B _ _ c ∙ ap (wrap s B) j ∙ wrap-of_in_range s B y h f

pub add-undoes : (s : Bool) (B : ℕ) (x b r y : ℤ) → 1 ≤ B → InRange s B y → x ≡ wrap s B (y -ℤ b) → r ≡ wrap s B (x +ℤ b) → r ≡ y
add-undoes s B x b r y h f e d =
    let c = Congruent-add B x (y -ℤ b) b b (wrapped-congruent s B (y -ℤ b) x e) (Congruent-refl B b) in
    let j : (y -ℤ b) +ℤ b ≡ y = omega (arith, ints) in
    d ∙ wrap-same s B _ _ c ∙ ap (wrap s B) j ∙ wrap-of_in_range s B y h f

pub rotr-undoes : (s : Bool) (B k : ℕ) (x z y : ℤ) → 1 ≤ B → k ≤ B → InRange s B y → x ≡ val s (slice_rotate_right (bits B y) k) → z ≡ val s (rotr (bits B x) k) → z ≡ y
rotr-undoes s B k x z y h g f e d =
    let l : bits B x ≡ slice_rotate_right (bits B y) k = ap (bits B) e ∙ bits-val s B (slice_rotate_right (bits B y) k) (length-rotl (bits B y) k ∙ length-bits B y) in
    let t : k ≤ length (bits B y) = omega (arith, length-bits B y) in
    d ∙ ap (λ (m : List Bool). val s (rotr m k)) l ∙ ap (val s) (rotr-rotl (bits B y) k t) ∙ val-bits_in_range s B y h f

pub rotl-rotr : (l : List Bool) (k : ℕ) → k ≤ length l → slice_rotate_right (rotr l k) k ≡ l
rotl-rotr l k h =
    let n : length (rotr l k) - k ≡ length (drop k l) = omega (arith, length-rotr l k, length-drop k l) in
    rw (n, take_at (drop k l) (take k l) (length (drop k l)) refl, drop_at (drop k l) (take k l) (length (drop k l)) refl) (take-append-drop k l)

pub rotl-undoes : (s : Bool) (B k : ℕ) (x z y : ℤ) → 1 ≤ B → k ≤ B → InRange s B y → x ≡ val s (rotr (bits B y) k) → z ≡ val s (slice_rotate_right (bits B x) k) → z ≡ y
rotl-undoes s B k x z y h g f e d =
    let l : bits B x ≡ rotr (bits B y) k = ap (bits B) e ∙ bits-val s B (rotr (bits B y) k) (length-rotr (bits B y) k ∙ length-bits B y) in
    let t : k ≤ length (bits B y) = omega (arith, length-bits B y) in
    d ∙ ap (λ (m : List Bool). val s (slice_rotate_right m k)) l ∙ ap (val s) (rotl-rotr (bits B y) k t) ∙ val-bits_in_range s B y h f

pub reverse-undoes : (s : Bool) (B : ℕ) (x z y : ℤ) → 1 ≤ B → InRange s B y → x ≡ val s (reverse (bits B y)) → z ≡ val s (reverse (bits B x)) → z ≡ y
reverse-undoes s B x z y h f e d =
    let l : bits B x ≡ reverse (bits B y) = ap (bits B) e ∙ bits-val s B (reverse (bits B y)) (length-reverse (bits B y) ∙ length-bits B y) in
    d ∙ ap (λ (m : List Bool). val s (reverse m)) l ∙ ap (val s) (reverse-reverse (bits B y)) ∙ val-bits_in_range s B y h f

unlike-twice : (a b : Bool) → not (beq (not (beq a b)) b) ≡ a
unlike-twice true true = refl
unlike-twice true false = refl
unlike-twice false true = refl
unlike-twice false false = refl

xor-xor : (l m : List Bool) → length l ≡ length m → bits_xor (bits_xor l m) m ≡ l
xor-xor [] m e = refl
xor-xor (a ∷ l) [] e = absurd (omega arith)
xor-xor (a ∷ l) (b ∷ m) e = ap₂ (λ (c : Bool) (n : List Bool). c ∷ n) (unlike-twice a b) (xor-xor l m (omega arith))

pub xor-undoes : (s : Bool) (B : ℕ) (x b z y : ℤ) → 1 ≤ B → InRange s B y → x ≡ val s (bits_xor (bits B y) (bits B b)) → z ≡ val s (bits_xor (bits B x) (bits B b)) → z ≡ y
xor-undoes s B x b z y h f e d =
    let l : bits B x ≡ bits_xor (bits B y) (bits B b) =
    ap (bits B) e ∙ bits-val s B (bits_xor (bits B y) (bits B b)) (length-xor (bits B y) (bits B b) (same_length B y b) ∙ length-bits B y) in
    d ∙ ap (λ (m : List Bool). val s (bits_xor m (bits B b))) l ∙ ap (val s) (xor-xor (bits B y) (bits B b) (same_length B y b)) ∙ val-bits_in_range s B y h f

-- to a type of the other sign, and back
pub wrap-wrap : (s t : Bool) (B : ℕ) (x : ℤ) → 1 ≤ B → InRange s B x → wrap s B (wrap t B x) ≡ x
wrap-wrap s t B x h f = wrap-same s B (wrap t B x) x (wrap-congruent t B x) ∙ wrap-of_in_range s B x h f

pub counterpart-undoes : (s : Bool) (B : ℕ) (u z y : ℤ) → 1 ≤ B → InRange s B y → u ≡ wrap false B y → z ≡ wrap s B u → z ≡ y
counterpart-undoes s B u z y h f e d = d ∙ ap (wrap s B) e ∙ wrap-wrap s false B y h f
