-- Why the low bits of a result depend only on the low bits of its sources.
use Rattle.std.proofs.Common.{◌≡◌, ℕ, zero, suc, ◌+◌, ◌-◌, ◌%◌, ◌^◌, ◌≤◌, ◌<◌, Bool, false, not, ◌&&◌, ◌||◌, List, [], ◌∷◌, ◌++◌, length, take, replicate, ℤ, pos, ◌+ℤ◌, ◌-ℤ◌, ◌*ℤ◌, refl, sym, ap, ◌∙◌, arith, length-take, take-take}
use Rattle.std.specs.Prelude.{map}
use Rattle.std.specs.Bool.{beq}
use Rattle.std.proofs.lemmas.List.{length-replicate, take-map}
use Rattle.std.proofs.Math.Seq.{take-append-add}
use Rattle.arbitrary_base.specs.Residue.{wrap}
use Rattle.arbitrary_base.specs.BitList.{bits, num, val, bits_and, bits_or, bits_xor, shl}
use Rattle.arbitrary_base.proofs.modular.Congruence.{Congruent-add, Congruent-sub, Congruent-mul, Congruent-narrower}
use Rattle.arbitrary_base.proofs.modular.Residue.{wrap-congruent, congruent-wrap, wrap-same}
use Rattle.arbitrary_base.proofs.storages.Primitive.{mod-congruent}
use Rattle.arbitrary_base.proofs.modular.Truncation.{residue-mod}
use Rattle.arbitrary_base.proofs.bit_lists.UnsignedNumber.{length-bits, length-and, length-or, length-xor, length-not, num-take, same_num}
use Rattle.arbitrary_base.proofs.bit_lists.Movement.{length-shl}
use Rattle.arbitrary_base.proofs.bit_lists.TwosComplement.{num-bits_residue, bits-wrap, val-num}

-- ---- arithmetic, by congruence

-- to wrap at more bits first changes nothing, whatever the signs
pub wrap-wide : (s t : Bool) (A B : ℕ) (x : ℤ) → 1 ≤ A → A ≤ B → wrap s A (wrap t B x) ≡ wrap s A x
wrap-wide s t A B x h g = wrap-same s A (wrap t B x) x (Congruent-narrower A B _ x g (wrap-congruent t B x))

pub low-sum : (s t : Bool) (A B : ℕ) (x y : ℤ) → 1 ≤ A → A ≤ B → wrap s A (wrap t B (x +ℤ y)) ≡ wrap s A (wrap s A x +ℤ wrap s A y)
low-sum s t A B x y h g = wrap-wide s t A B (x +ℤ y) h g ∙ wrap-same s A _ _ (Congruent-add A x _ y _ (congruent-wrap s A x) (congruent-wrap s A y))

pub low-difference : (s t : Bool) (A B : ℕ) (x y : ℤ) → 1 ≤ A → A ≤ B → wrap s A (wrap t B (x -ℤ y)) ≡ wrap s A (wrap s A x -ℤ wrap s A y)
low-difference s t A B x y h g = wrap-wide s t A B (x -ℤ y) h g ∙ wrap-same s A _ _ (Congruent-sub A x _ y _ (congruent-wrap s A x) (congruent-wrap s A y))

pub low-product : (s t : Bool) (A B : ℕ) (x y : ℤ) → 1 ≤ A → A ≤ B → wrap s A (wrap t B (x *ℤ y)) ≡ wrap s A (wrap s A x *ℤ wrap s A y)
low-product s t A B x y h g = wrap-wide s t A B (x *ℤ y) h g ∙ wrap-same s A _ _ (Congruent-mul A x _ y _ (congruent-wrap s A x) (congruent-wrap s A y))

-- ---- bits, by the first items of lists

-- the low bits of a number are the first of its bits
pub take-bits : (A B : ℕ) (x : ℤ) → 1 ≤ A → A ≤ B → take A (bits B x) ≡ bits A x
take-bits A B x h g =
    same_num (take A (bits B x)) (bits A x) (simp (length-take, length-bits) (omega arith))
    (num-take A (bits B x) ∙ ap (λ (n : ℕ). n % 2 ^ A) (num-bits_residue B x) ∙ residue-mod A B x h g ∙ sym (num-bits_residue A x))

-- the value of a list, wrapped, is that of its first items
pub wrap-val : (s t : Bool) (A B : ℕ) (l : List Bool) → 1 ≤ A → A ≤ B → length l ≡ B → wrap s A (val t l) ≡ val s (take A l)
wrap-val s t A B l h g e =
    ap (wrap s A) (val-num t B l e) ∙ wrap-wide s t A B (pos (num l)) h g
    ∙ sym (val-num s A (take A l) (simp length-take (omega arith)) ∙ ap (λ (n : ℕ). wrap s A (pos n)) (num-take A l) ∙ wrap-same s A _ _ (mod-congruent A (num l)))

-- an operation on lists of one length whose first items come from the first items
low-one : (s t : Bool) (A B : ℕ) (x : ℤ) (f : List Bool → List Bool)
    → ((l : List Bool) → length (f l) ≡ length l) → ((k : ℕ) (l : List Bool) → take k (f l) ≡ f (take k l))
    → 1 ≤ A → A ≤ B → wrap s A (val t (f (bits B x))) ≡ val s (f (bits A (wrap s A x)))
low-one s t A B x f same parts h g =
    wrap-val s t A B (f (bits B x)) h g (same (bits B x) ∙ length-bits B x)
    ∙ ap (val s) (parts A (bits B x) ∙ ap f (take-bits A B x h g ∙ sym (bits-wrap s A x)))

low-two : (s t : Bool) (A B : ℕ) (x y : ℤ) (f : List Bool → List Bool → List Bool)
    → ((l m : List Bool) → length l ≡ length m → length (f l m) ≡ length l)
    → ((k : ℕ) (l m : List Bool) → take k (f l m) ≡ f (take k l) (take k m))
    → 1 ≤ A → A ≤ B → wrap s A (val t (f (bits B x) (bits B y))) ≡ val s (f (bits A (wrap s A x)) (bits A (wrap s A y)))
low-two s t A B x y f same parts h g =
    let a = take-bits A B x h g ∙ sym (bits-wrap s A x) in
    let b = take-bits A B y h g ∙ sym (bits-wrap s A y) in
    wrap-val s t A B (f (bits B x) (bits B y)) h g (same (bits B x) (bits B y) (length-bits B x ∙ sym (length-bits B y)) ∙ length-bits B x)
    ∙ ap (val s) (parts A (bits B x) (bits B y) ∙ (λ i. f (a i) (b i)))

take-and : (k : ℕ) (l m : List Bool) → take k (bits_and l m) ≡ bits_and (take k l) (take k m)
take-and zero l m = refl
take-and (suc k) [] m = refl
take-and (suc k) (a ∷ l) [] = refl
take-and (suc k) (a ∷ l) (b ∷ m) = ap (λ (r : List Bool). (a && b) ∷ r) (take-and k l m)

take-or : (k : ℕ) (l m : List Bool) → take k (bits_or l m) ≡ bits_or (take k l) (take k m)
take-or zero l m = refl
take-or (suc k) [] m = refl
take-or (suc k) (a ∷ l) [] = refl
take-or (suc k) (a ∷ l) (b ∷ m) = ap (λ (r : List Bool). (a || b) ∷ r) (take-or k l m)

take-xor : (k : ℕ) (l m : List Bool) → take k (bits_xor l m) ≡ bits_xor (take k l) (take k m)
take-xor zero l m = refl
take-xor (suc k) [] m = refl
take-xor (suc k) (a ∷ l) [] = refl
take-xor (suc k) (a ∷ l) (b ∷ m) = ap (λ (r : List Bool). not (beq a b) ∷ r) (take-xor k l m)

pub low-and : (s t : Bool) (A B : ℕ) (x y : ℤ) → 1 ≤ A → A ≤ B
    → wrap s A (val t (bits_and (bits B x) (bits B y))) ≡ val s (bits_and (bits A (wrap s A x)) (bits A (wrap s A y)))
low-and s t A B x y h g = low-two s t A B x y bits_and length-and take-and h g

pub low-or : (s t : Bool) (A B : ℕ) (x y : ℤ) → 1 ≤ A → A ≤ B
    → wrap s A (val t (bits_or (bits B x) (bits B y))) ≡ val s (bits_or (bits A (wrap s A x)) (bits A (wrap s A y)))
low-or s t A B x y h g = low-two s t A B x y bits_or length-or take-or h g

pub low-xor : (s t : Bool) (A B : ℕ) (x y : ℤ) → 1 ≤ A → A ≤ B
    → wrap s A (val t (bits_xor (bits B x) (bits B y))) ≡ val s (bits_xor (bits A (wrap s A x)) (bits A (wrap s A y)))
low-xor s t A B x y h g = low-two s t A B x y bits_xor length-xor take-xor h g

pub low-not : (s t : Bool) (A B : ℕ) (x : ℤ) → 1 ≤ A → A ≤ B
    → wrap s A (val t (map not (bits B x))) ≡ val s (map not (bits A (wrap s A x)))
low-not s t A B x h g = low-one s t A B x (map not) length-not (λ k l. take-map not k l) h g

-- the first items of a list that is shifted by less than these
take-shl : (A k : ℕ) (l : List Bool) → k ≤ A → A ≤ length l → take A (shl l k) ≡ shl (take A l) k
take-shl A k l h g =
    ap (λ (n : ℕ). take n (shl l k)) (let e : A ≡ length (replicate k false) + (A - k) = omega (arith, length-replicate k false) in e)
    ∙ take-append-add (replicate k false) (take (length l - k) l) (A - k)
    ∙ ap (λ (m : List Bool). replicate k false ++ m)
    (take-take (A - k) (length l - k) l (omega arith)
    ∙ sym (ap (λ (n : ℕ). take (n - k) (take A l)) (let e : length (take A l) ≡ A = simp length-take (omega arith) in e) ∙ take-take (A - k) A l (omega arith)))

pub low-shl : (s t : Bool) (A B k : ℕ) (x : ℤ) → A ≤ B → k < A
    → wrap s A (val t (shl (bits B x) k)) ≡ val s (shl (bits A (wrap s A x)) k)
low-shl s t A B k x g l =
    let n = length-bits B x in
    wrap-val s t A B (shl (bits B x) k) (omega arith) g (length-shl (bits B x) k (omega arith) ∙ n)
    ∙ ap (val s) (take-shl A k (bits B x) (omega arith) (omega arith) ∙ ap (λ (m : List Bool). shl m k) (take-bits A B x (omega arith) g ∙ sym (bits-wrap s A x)))
