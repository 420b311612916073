-- Numbers of B bits that are shifted up to the storage's W bits: multiples of 2 ^ (W - B).
use Rattle.std.specs.Prelude.{◌≡◌, ◌↔◌, ℕ, ℤ, Bool, true, false, not, pos, neg_ℤ, ◌+ℤ◌, ◌-ℤ◌, ◌*ℤ◌, ◌≤ℤ◌, ◌<ℤ◌, ◌*◌, ◌-◌, ◌^◌, ◌≤◌, IsTrue, unsigned_abs}
use Rattle.std.specs.Int.{int_shr}
use Rattle.std.proofs.Common.{arith, refl, ap, sym, subst, ◌∙◌, ⊎_elim}
use Rattle.std.proofs.lemmas.Int.{ints, by_lt_z}
use Rattle.std.proofs.lemmas.Nat.{pow_pos}
use Rattle.arbitrary_base.specs.Range.{lo, hi, InRange}
use Rattle.arbitrary_base.specs.Residue.{Congruent, residue, wrap}
use Rattle.arbitrary_base.specs.Saturating.{clamp}
use Rattle.arbitrary_base.specs.BitList.{bits, val, fill, shl, shr}
use Rattle.arbitrary_base.proofs.integers.Ring.{add-mul_z, sub-mul_z, neg-mul_z, mul_assoc_z, pos-unsigned_abs}
use Rattle.arbitrary_base.proofs.modular.Congruence.{pow_split, Congruent-mul_left, times, Congruent-by_times}
use Rattle.arbitrary_base.proofs.modular.Residue.{wrap-unique, wrap-same, wrap-in_range, wrap-congruent, wrap-of_in_range, residue-congruent}
use Rattle.arbitrary_base.proofs.bit_lists.SignBit.{val-shl, val-shr}
use Rattle.arbitrary_base.proofs.operations.ShiftAsProduct.{int_shr-low, int_shr-high}
use Rattle.arbitrary_base.proofs.storages.CheckedSum.{three_ways}
use Rattle.arbitrary_base.proofs.storages.Clamp.{clamp-fits, clamp-below, clamp-above}

-- a multiple of the greater number is greater
times-le : (x y : ℤ) (n : ℕ) → x ≤ℤ y → (x *ℤ pos n) ≤ℤ (y *ℤ pos n)
times-le x y n h =
    let d = unsigned_abs (y -ℤ x) in
    let is : pos d ≡ y -ℤ x = pos-unsigned_abs (y -ℤ x) (omega (arith, ints)) in
    let f : x +ℤ pos d ≡ y = omega (arith, ints) in
    let g : y *ℤ pos n ≡ x *ℤ pos n +ℤ pos (d * n) = subst (λ (z : ℤ). z *ℤ pos n ≡ x *ℤ pos n +ℤ pos (d * n)) f (add-mul_z x (pos d) (pos n)) in
    omega (arith, ints)

-- by n at least
times-lt : (x y : ℤ) (n : ℕ) → x <ℤ y → (x *ℤ pos n +ℤ pos n) ≤ℤ (y *ℤ pos n)
times-lt x y n h =
    let g : (x +ℤ pos 1) *ℤ pos n ≡ x *ℤ pos n +ℤ pos (1 * n) = add-mul_z x (pos 1) (pos n) in
    let l = times-le (x +ℤ pos 1) y n (omega (arith, ints)) in
    omega (arith, ints)

-- the ends move up with the numbers
lo-raised : (s : Bool) (B W : ℕ) → 1 ≤ B → B ≤ W → lo s W ≡ lo s B *ℤ pos (2 ^ (W - B))
lo-raised false B W h g = omega (arith, ints)
lo-raised true B W h g =
    let k : (W - 1) - (B - 1) ≡ W - B = omega arith in
    let p : 2 ^ (W - 1) ≡ 2 ^ (W - B) * 2 ^ (B - 1) = subst (λ (n : ℕ). 2 ^ (W - 1) ≡ 2 ^ n * 2 ^ (B - 1)) k (pow_split (B - 1) (W - 1) (omega arith)) in
    let e : neg_ℤ (pos (2 ^ (B - 1))) *ℤ pos (2 ^ (W - B)) ≡ neg_ℤ (pos (2 ^ (B - 1) * 2 ^ (W - B))) = neg-mul_z (pos (2 ^ (B - 1))) (pos (2 ^ (W - B))) in
    omega (arith, ints)

hi-raised : (s : Bool) (B W : ℕ) → 1 ≤ B → B ≤ W → hi s W +ℤ pos 1 ≡ (hi s B +ℤ pos 1) *ℤ pos (2 ^ (W - B))
hi-raised false B W h g =
    let p = pow_split B W g in
    let e : (hi false B +ℤ pos 1) ≡ pos (2 ^ B) = omega (arith, ints) in
    rw e (omega (arith, ints))
hi-raised true B W h g =
    let k : (W - 1) - (B - 1) ≡ W - B = omega arith in
    let p : 2 ^ (W - 1) ≡ 2 ^ (W - B) * 2 ^ (B - 1) = subst (λ (n : ℕ). 2 ^ (W - 1) ≡ 2 ^ n * 2 ^ (B - 1)) k (pow_split (B - 1) (W - 1) (omega arith)) in
    let e : (hi true B +ℤ pos 1) ≡ pos (2 ^ (B - 1)) = omega (arith, ints) in
    rw e (omega (arith, ints))

-- in range at the storage exactly where the number is in range at B bits
pub raised-InRange : (s : Bool) (B W : ℕ) (x : ℤ) → 1 ≤ B → B ≤ W → InRange s W (x *ℤ pos (2 ^ (W - B))) ↔ InRange s B x
raised-InRange s B W x h g =
    let l = lo-raised s B W h g in
    let u = hi-raised s B W h g in
    let p = pow_pos (W - B) in (
      (λ i. let a = i.low in let b = i.high in record {
        low = by_lt_z x (lo s B) (λ c. let t = times-lt x (lo s B) (2 ^ (W - B)) c in absurd (omega (arith, ints))) (λ c. c);
        high = by_lt_z (hi s B) x (λ c. let t = times-le (hi s B +ℤ pos 1) x (2 ^ (W - B)) (omega (arith, ints)) in absurd (omega (arith, ints))) (λ c. c);
      }),
      (λ i. let a = times-le (lo s B) x (2 ^ (W - B)) i.low in let k = i.high in
          let b = times-lt x (hi s B +ℤ pos 1) (2 ^ (W - B)) (omega (arith, ints)) in
          record { low = omega (arith, ints); high = omega (arith, ints) }),
    )

-- and the truncation of it is moved up likewise
pub wrap-raised : (s : Bool) (B W : ℕ) (x : ℤ) → 1 ≤ B → B ≤ W → wrap s W (x *ℤ pos (2 ^ (W - B))) ≡ wrap s B x *ℤ pos (2 ^ (W - B))
wrap-raised s B W x h g =
    wrap-unique s W (x *ℤ pos (2 ^ (W - B))) (wrap s B x *ℤ pos (2 ^ (W - B))) (omega arith)
    ((raised-InRange s B W (wrap s B x) h g).1 (wrap-in_range s B x h))
    (moved (wrap s B x) (wrap-congruent s B x))
  where
    moved : (w : ℤ) → Congruent B w x → Congruent W (w *ℤ pos (2 ^ (W - B))) (x *ℤ pos (2 ^ (W - B)))
    moved w c =
        let t = times B w x c in
        let m = pos (2 ^ (W - B)) in
        let p : 2 ^ B * 2 ^ (W - B) ≡ 2 ^ W = let q = pow_split B W g in omega arith in
        Congruent-by_times W _ _ t.0
        (sym (sub-mul_z w x m) ∙ ap (λ (z : ℤ). z *ℤ m) t.1 ∙ mul_assoc_z t.0 (pos (2 ^ B)) m ∙ ap (λ (n : ℕ). t.0 *ℤ pos n) p)

-- a shift down of what lies between two multiples is the lower one's number
int_shr-between : (k : ℕ) (x m : ℤ) → (x *ℤ pos (2 ^ k)) ≤ℤ m → m <ℤ (x *ℤ pos (2 ^ k) +ℤ pos (2 ^ k)) → int_shr m k ≡ x
int_shr-between k x m f g =
    let z = int_shr m k in
    let l = int_shr-low k m in
    let u = int_shr-high k m in
    by_lt_z z x
    (λ a. let t = times-lt z x (2 ^ k) a in absurd (omega (arith, ints)))
    (λ a. by_lt_z x z (λ b. let t = times-lt x z (2 ^ k) b in absurd (omega (arith, ints))) (λ b. omega (arith, ints)))

-- so it undoes the shift up
pub int_shr-raised : (k : ℕ) (x : ℤ) → int_shr (x *ℤ pos (2 ^ k)) k ≡ x
int_shr-raised k x = let p = pow_pos k in int_shr-between k x (x *ℤ pos (2 ^ k)) (omega (arith, ints)) (omega (arith, ints))

-- the storage's shifts; v is its width as the code reads it
raise-wraps : (s : Bool) (B W v : ℕ) (x z : ℤ) → 1 ≤ B → B ≤ W → v ≡ W → z ≡ val s (shl (bits W x) (v - B)) → z ≡ wrap s W (x *ℤ pos (2 ^ (W - B)))
raise-wraps s B W v x z h g q e =
    e ∙ ap (λ (n : ℕ). val s (shl (bits W x) (n - B))) q ∙ val-shl s W (W - B) (residue W x) x (omega arith) (omega arith) refl
    ∙ wrap-same s W (pos (residue W x * 2 ^ (W - B))) (x *ℤ pos (2 ^ (W - B))) (Congruent-mul_left W (pos (residue W x)) x (pos (2 ^ (W - B))) (residue-congruent W x))

pub raise-value : (s : Bool) (B W v : ℕ) (x z : ℤ) → 1 ≤ B → B ≤ W → InRange s B x → v ≡ W → z ≡ val s (shl (bits W x) (v - B)) → z ≡ x *ℤ pos (2 ^ (W - B))
raise-value s B W v x z h g i q e =
    raise-wraps s B W v x z h g q e ∙ wrap-of_in_range s W (x *ℤ pos (2 ^ (W - B))) (omega arith) ((raised-InRange s B W x h g).1 i)

pub lower-value : (s : Bool) (B W v : ℕ) (x z : ℤ) → 1 ≤ B → B ≤ W → InRange s W x → v ≡ W → z ≡ val s (shr (bits W x) (v - B) (fill s (bits W x))) → z ≡ int_shr x (W - B)
lower-value s B W v x z h g i q e = e ∙ ap (λ (n : ℕ). val s (shr (bits W x) (n - B) (fill s (bits W x)))) q ∙ val-shr s W (W - B) x (omega arith) (omega arith) i

-- the truncation of the multiple of e in the storage, moved down
pub lowered : (s : Bool) (B W : ℕ) (e m w z : ℤ) → 1 ≤ B → B ≤ W → m ≡ e *ℤ pos (2 ^ (W - B)) → w ≡ wrap s W m → z ≡ int_shr w (W - B) → z ≡ wrap s B e
lowered s B W e m w z h g p q r =
    r ∙ ap (λ (v : ℤ). int_shr v (W - B)) (q ∙ ap (wrap s W) p ∙ wrap-raised s B W e h g) ∙ int_shr-raised (W - B) (wrap s B e)

-- so a number moved up and down again is truncated, whatever it was
pub shifted-back : (s : Bool) (B W v : ℕ) (x m z : ℤ) → 1 ≤ B → B ≤ W → v ≡ W → m ≡ val s (shl (bits W x) (v - B))
    → z ≡ val s (shr (bits W m) (v - B) (fill s (bits W m))) → z ≡ wrap s B x
shifted-back s B W v x m z h g p e f =
    let k = raise-wraps s B W v x m h g p e in
    let i : InRange s W m = subst (λ (a : ℤ). InRange s W a) (sym k) (wrap-in_range s W (x *ℤ pos (2 ^ (W - B))) (omega arith)) in
    lowered s B W x (x *ℤ pos (2 ^ (W - B))) m z h g refl k (lower-value s B W v m z h g i p f)

-- the flag, by a test of the multiple; n and a are the storage's width and the multiple as the code reads them
pub raised-overflow : (s : Bool) (B W n : ℕ) (e m a : ℤ) (b : Bool) → 1 ≤ B → B ≤ W → m ≡ e *ℤ pos (2 ^ (W - B)) → n ≡ W → a ≡ m → (IsTrue b ↔ InRange s n a)
    → IsTrue (not b) ↔ ¬ (InRange s B e)
raised-overflow s B W n e m a true h g p u v q = ((λ t. cc), (λ o. absurd (o ((raised-InRange s B W e h g).0 (subst (λ (z : ℤ). InRange s W z) (v ∙ p) (subst (λ (k : ℕ). InRange s k a) u (q.0 refl)))))))
raised-overflow s B W n e m a false h g p u v q =
    ((λ t i. let y : IsTrue false = q.1 (subst (λ (k : ℕ). InRange s k a) (sym u) (subst (λ (z : ℤ). InRange s W z) (sym (v ∙ p)) ((raised-InRange s B W e h g).1 i))) in cc), (λ t. refl))

-- the multiple of e, clamped in the storage and moved down, is e clamped: of the high end of W a shift down makes that of B
clamp-raised : (s : Bool) (B W : ℕ) (e : ℤ) → 1 ≤ B → B ≤ W → int_shr (clamp s W (e *ℤ pos (2 ^ (W - B)))) (W - B) ≡ clamp s B e
clamp-raised s B W e h g =
    let k = W - B in
    let l = lo-raised s B W h g in
    let u = hi-raised s B W h g in
    let p = pow_pos k in
    let one : 1 ≤ W = omega arith in
    let down = λ (v : ℤ). int_shr v k in
    ⊎_elim
    (λ i. ap down (clamp-fits s W (e *ℤ pos (2 ^ k)) ((raised-InRange s B W e h g).1 i)) ∙ int_shr-raised k e ∙ sym (clamp-fits s B e i))
    (⊎_elim
    (λ a. let t = times-lt e (lo s B) (2 ^ k) a in
    ap down (clamp-below s W (e *ℤ pos (2 ^ k)) (omega (arith, ints)) ∙ l) ∙ int_shr-raised k (lo s B) ∙ sym (clamp-below s B e a))
    (λ a. let t = times-le (hi s B +ℤ pos 1) e (2 ^ k) (omega (arith, ints)) in
    let v : (hi s B +ℤ pos 1) *ℤ pos (2 ^ k) ≡ hi s B *ℤ pos (2 ^ k) +ℤ pos (1 * 2 ^ k) = add-mul_z (hi s B) (pos 1) (pos (2 ^ k)) in
    ap down (clamp-above s W (e *ℤ pos (2 ^ k)) one (omega (arith, ints))) ∙ int_shr-between k (hi s B) (hi s W) (omega (arith, ints)) (omega (arith, ints))
    ∙ sym (clamp-above s B e h a)))
    (three_ways s B e)

-- m is the multiple of e as the code reads it
pub nearest-raised : (s : Bool) (B W : ℕ) (e m z : ℤ) → 1 ≤ B → B ≤ W → m ≡ e *ℤ pos (2 ^ (W - B)) → z ≡ int_shr (clamp s W m) (W - B) → z ≡ clamp s B e
nearest-raised s B W e m z h g p q = q ∙ ap (λ (v : ℤ). int_shr (clamp s W v) (W - B)) p ∙ clamp-raised s B W e h g

-- the sum and the difference of two multiples
pub raised-sum : (k : ℕ) (x y a b m : ℤ) → a ≡ x *ℤ pos (2 ^ k) → b ≡ y *ℤ pos (2 ^ k) → m ≡ a +ℤ b → m ≡ (x +ℤ y) *ℤ pos (2 ^ k)
raised-sum k x y a b m p q r = let e = add-mul_z x y (pos (2 ^ k)) in omega (arith, ints)

pub raised-difference : (k : ℕ) (x y a b m : ℤ) → a ≡ x *ℤ pos (2 ^ k) → b ≡ y *ℤ pos (2 ^ k) → m ≡ a -ℤ b → m ≡ (x -ℤ y) *ℤ pos (2 ^ k)
raised-difference k x y a b m p q r = let e = sub-mul_z x y (pos (2 ^ k)) in omega (arith, ints)
