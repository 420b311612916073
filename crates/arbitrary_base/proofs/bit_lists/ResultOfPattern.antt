-- From the pattern that the code computes to the number of the result.
use Rattle.std.specs.List.{slice_rotate_right}
use Rattle.std.specs.Prelude.{Bool, List, drop, length, map, not, pos, replicate, reverse, take, ℕ, ℤ, ◌%◌, ◌+◌, ◌/◌, ◌<◌, ◌^◌, ◌≡◌, ◌≤◌}
use Rattle.std.proofs.Common.{ap, arith, length-drop, refl, sym, ◌∙◌}
use Rattle.std.proofs.lemmas.List.{length-reverse, take-append-le}
use Rattle.arbitrary_base.specs.BitList.{bits, bits_and, bits_or, bits_xor, num, shl, shr, val}
use Rattle.arbitrary_base.specs.Residue.{residue, wrap}
use Rattle.arbitrary_base.proofs.bit_lists.Movement.{length-items, length-rotl, length-rotr, length-shr, rotr}
use Rattle.arbitrary_base.proofs.bit_lists.SignBit.{val-shl}
use Rattle.arbitrary_base.proofs.bit_lists.TwosComplement.{bits-residue, bits-val, num-bits_residue, val-num}
use Rattle.arbitrary_base.proofs.bit_lists.UnsignedNumber.{length-and, length-bits, length-not, length-or, length-xor, num-drop, num-take}
use Rattle.arbitrary_base.proofs.modular.Congruence.{Congruent-mul_left, Congruent-narrower, Congruent-sym, Congruent-trans}
use Rattle.arbitrary_base.proofs.modular.Residue.{residue-congruent, wrap-same}
use Rattle.arbitrary_base.proofs.storages.CheckedSum.{wrap-wrap}
use Rattle.arbitrary_base.proofs.storages.Primitive.{mod-congruent}

-- made of the bits of one number by f, or of two
of_one : (s : Bool) (B p q : ℕ) (x z : ℤ) (f : List Bool → List Bool) → length (f (bits B x)) ≡ B
    → p ≡ residue B x → q ≡ num (f (bits B (pos p))) → z ≡ wrap s B (pos q) → z ≡ val s (f (bits B x))
of_one s B p q x z f n e g h =
    h ∙ ap (λ (m : ℕ). wrap s B (pos m)) (g ∙ ap (λ (l : List Bool). num (f l)) (bits-residue B p x e)) ∙ sym (val-num s B (f (bits B x)) n)

of_two : (s : Bool) (B p r q : ℕ) (x y z : ℤ) (f : List Bool → List Bool → List Bool)
    → ((l m : List Bool) → length l ≡ length m → length (f l m) ≡ length l)
    → p ≡ residue B x → r ≡ residue B y → q ≡ num (f (bits B (pos p)) (bits B (pos r))) → z ≡ wrap s B (pos q) → z ≡ val s (f (bits B x) (bits B y))
of_two s B p r q x y z f k e o g h =
    let n : length (f (bits B x) (bits B y)) ≡ B = k (bits B x) (bits B y) (length-bits B x ∙ sym (length-bits B y)) ∙ length-bits B x in
    let b = bits-residue B p x e in
    let d = bits-residue B r y o in
    h ∙ ap (λ (m : ℕ). wrap s B (pos m)) (g ∙ (λ i. num (f (b i) (d i)))) ∙ sym (val-num s B (f (bits B x) (bits B y)) n)

-- ---- item by item

pub and-value : (s : Bool) (B p r q : ℕ) (x y z : ℤ) → p ≡ residue B x → r ≡ residue B y
    → q ≡ num (bits_and (bits B (pos p)) (bits B (pos r))) → z ≡ wrap s B (pos q) → z ≡ val s (bits_and (bits B x) (bits B y))
and-value s B p r q x y z = of_two s B p r q x y z bits_and length-and

pub or-value : (s : Bool) (B p r q : ℕ) (x y z : ℤ) → p ≡ residue B x → r ≡ residue B y
    → q ≡ num (bits_or (bits B (pos p)) (bits B (pos r))) → z ≡ wrap s B (pos q) → z ≡ val s (bits_or (bits B x) (bits B y))
or-value s B p r q x y z = of_two s B p r q x y z bits_or length-or

pub xor-value : (s : Bool) (B p r q : ℕ) (x y z : ℤ) → p ≡ residue B x → r ≡ residue B y
    → q ≡ num (bits_xor (bits B (pos p)) (bits B (pos r))) → z ≡ wrap s B (pos q) → z ≡ val s (bits_xor (bits B x) (bits B y))
xor-value s B p r q x y z = of_two s B p r q x y z bits_xor length-xor

pub not-value : (s : Bool) (B p q : ℕ) (x z : ℤ) → p ≡ residue B x → q ≡ num (map not (bits B (pos p)))
    → z ≡ wrap s B (pos q) → z ≡ val s (map not (bits B x))
not-value s B p q x z = of_one s B p q x z (map not) (length-not (bits B x) ∙ length-bits B x)

-- ---- in another order

pub rotl-value : (s : Bool) (B p q k : ℕ) (x z : ℤ) → p ≡ residue B x → q ≡ num (slice_rotate_right (bits B (pos p)) k)
    → z ≡ wrap s B (pos q) → z ≡ val s (slice_rotate_right (bits B x) k)
rotl-value s B p q k x z = of_one s B p q x z (λ (l : List Bool). slice_rotate_right l k) (length-rotl (bits B x) k ∙ length-bits B x)

pub rotr-value : (s : Bool) (B p q k : ℕ) (x z : ℤ) → p ≡ residue B x → q ≡ num (rotr (bits B (pos p)) k)
    → z ≡ wrap s B (pos q) → z ≡ val s (rotr (bits B x) k)
rotr-value s B p q k x z = of_one s B p q x z (λ (l : List Bool). rotr l k) (length-rotr (bits B x) k ∙ length-bits B x)

pub reverse-value : (s : Bool) (B p q : ℕ) (x z : ℤ) → p ≡ residue B x → q ≡ num (reverse (bits B (pos p)))
    → z ≡ wrap s B (pos q) → z ≡ val s (reverse (bits B x))
reverse-value s B p q x z = of_one s B p q x z (λ (l : List Bool). reverse l) (length-reverse (bits B x) ∙ length-bits B x)

-- ---- shifts

-- shifted in a wider storage, and cut
pub shl-narrow : (s : Bool) (B W k : ℕ) (x y z : ℤ) → z ≡ wrap s B y → y ≡ val s (shl (bits W x) k)
    → 1 ≤ B → B ≤ W → k < B → z ≡ val s (shl (bits B x) k)
shl-narrow s B W k x y z f e h g l =
    let c = Congruent-trans B (pos (residue W x)) x _ (Congruent-narrower B W _ x g (residue-congruent W x)) (Congruent-sym B _ x (residue-congruent B x)) in
    f ∙ ap (wrap s B) (e ∙ val-shl s W k (residue W x) x (omega arith) (omega arith) refl)
    ∙ wrap-wrap s B W _ h g
    ∙ wrap-same s B _ _ (Congruent-mul_left B (pos (residue W x)) (pos (residue B x)) (pos (2 ^ k)) c)
    ∙ sym (val-shl s B k (residue B x) x h (omega arith) refl)

-- ---- parts

-- the items have the number that is left of q
items-of_num : (s : Bool) (B W start q : ℕ) (x z : ℤ) → 1 ≤ B → start + B ≤ W → num (take B (drop start (bits W x))) ≡ q % 2 ^ B
    → z ≡ wrap s B (pos q) → z ≡ val s (take B (drop start (bits W x)))
items-of_num s B W start q x z h g n o =
    o ∙ sym (val-num s B (take B (drop start (bits W x))) (length-items start B (bits W x) (omega (arith, length-bits W x)))
    ∙ ap (λ (m : ℕ). wrap s B (pos m)) n ∙ wrap-same s B _ _ (mod-congruent B q))

pub items-value : (s : Bool) (B W start p q : ℕ) (x z : ℤ) → 1 ≤ B → start + B ≤ W → p ≡ residue W x → q ≡ p / 2 ^ start
    → z ≡ wrap s B (pos q) → z ≡ val s (take B (drop start (bits W x)))
items-value s B W start p q x z h g e f =
    items-of_num s B W start q x z h g (num-take B (drop start (bits W x)) ∙ rw (num-drop start (bits W x), num-bits_residue W x, f, e) refl)

-- from the number y that is x shifted in its own storage, whatever came in above
pub items-shifted : (s t : Bool) (B W start q : ℕ) (x y z : ℤ) (f : Bool) → 1 ≤ B → start + B ≤ W → y ≡ val t (shr (bits W x) start f)
    → q ≡ residue W y → z ≡ wrap s B (pos q) → z ≡ val s (take B (drop start (bits W x)))
items-shifted s t B W start q x y z f h g e o =
    let len : length (shr (bits W x) start f) ≡ W = length-shr (bits W x) start f (omega (arith, length-bits W x)) ∙ length-bits W x in
    let part : take B (shr (bits W x) start f) ≡ take B (drop start (bits W x)) =
    take-append-le B (drop start (bits W x)) (replicate start f) (omega (arith, length-drop start (bits W x), length-bits W x)) in
    let whole : num (shr (bits W x) start f) ≡ q =
    ap num (sym (bits-val t W (shr (bits W x) start f) len) ∙ ap (bits W) (sym e)) ∙ num-bits_residue W y ∙ sym o in
    items-of_num s B W start q x z h g (ap num (sym part) ∙ num-take B (shr (bits W x) start f) ∙ ap (λ (m : ℕ). m % 2 ^ B) whole)
