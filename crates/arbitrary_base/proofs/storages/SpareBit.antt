-- How the wrapped sum, difference or product in a storage determines the exact one.
use Rattle.std.specs.Prelude.{◌≡◌, ◌↔◌, ℕ, suc, ℤ, Bool, true, false, not, ◌||◌, pos, ◌+ℤ◌, ◌-ℤ◌, ◌≤ℤ◌, ◌*◌, ◌-◌, ◌^◌, ◌≤◌, ◌<◌, IsTrue}
use Rattle.std.proofs.Common.{arith, refl, ap, sym, subst, ◌∙◌, ⊎_elim}
use Rattle.std.proofs.lemmas.Int.{ints}
use Rattle.std.proofs.lemmas.Nat.{pow_pos}
use Rattle.arbitrary_base.specs.Range.{lo, hi, InRange}
use Rattle.arbitrary_base.specs.Residue.{wrap}
use Rattle.arbitrary_base.proofs.modular.Congruence.{pow_half, pow_le, span}
use Rattle.arbitrary_base.proofs.modular.Residue.{wrap-of_in_range}
use Rattle.arbitrary_base.proofs.modular.Truncation.{InRange-wider}
use Rattle.arbitrary_base.proofs.storages.CheckedSum.{three_ways, wrap-above, wrap-below, wrap-wrap, zero-in_range}

-- the stored number w is in range only where the exact one e is, and there it is e
abbrev pub Determines : Bool → ℕ → ℤ → ℤ → Type 0
Determines s B e w = (InRange s B w → InRange s B e × (w ≡ e)) × (InRange s B e → w ≡ e)

pub equal-determines : (s : Bool) (B : ℕ) (e w : ℤ) → w ≡ e → Determines s B e w
equal-determines s B e w k = ((λ i. (subst (λ (v : ℤ). InRange s B v) k i, k)), (λ i. k))

twice : (B W : ℕ) → 1 ≤ B → B < W → 2 * 2 ^ B ≤ 2 ^ W
twice B W h g = let p = pow_le (suc B) W (omega arith) in omega arith

-- a number at most 2 ^ B out of range
spare-determines : (s : Bool) (B W : ℕ) (e w : ℤ) → 1 ≤ B → B < W → (lo s B -ℤ pos (2 ^ B)) ≤ℤ e → e ≤ℤ (hi s B +ℤ pos (2 ^ B)) → w ≡ wrap s W e → Determines s B e w
spare-determines s B W e w h g l m n =
    let t = twice B W h g in
    let a = span s B h in
    let p = pow_pos B in
    let z = (InRange-wider s B W (lo s B) h (omega arith) (record { low = omega (arith, ints); high = omega (arith, ints) })).low in
    let y = (InRange-wider s B W (hi s B) h (omega arith) (record { low = omega (arith, ints); high = omega (arith, ints) })).high in
    ⊎_elim
    (λ i. equal-determines s B e w (n ∙ wrap-of_in_range s W e (omega arith) i))
    (⊎_elim
    (λ b. let k : w ≡ e +ℤ pos (2 ^ W) = n ∙ wrap-below s W e (omega arith) b (omega (arith, ints)) in
    ((λ j. let u = j.high in absurd (omega (arith, ints))), (λ j. let u = j.low in absurd (omega (arith, ints)))))
    (λ b. let k : w ≡ e -ℤ pos (2 ^ W) = n ∙ wrap-above s W e (omega arith) b (omega (arith, ints)) in
    ((λ j. let u = j.low in absurd (omega (arith, ints))), (λ j. let u = j.high in absurd (omega (arith, ints))))))
    (three_ways s W e)

pub sum-determines : (s : Bool) (B W : ℕ) (x y w : ℤ) → 1 ≤ B → B < W → InRange s B x → InRange s B y → w ≡ wrap s W (x +ℤ y) → Determines s B (x +ℤ y) w
sum-determines s B W x y w h g i j n =
    let a = span s B h in let z = zero-in_range s B h in let p = z.low in let q = z.high in
    let b = i.low in let c = i.high in let d = j.low in let f = j.high in
    spare-determines s B W (x +ℤ y) w h g (omega (arith, ints)) (omega (arith, ints)) n

pub difference-determines : (s : Bool) (B W : ℕ) (x y w : ℤ) → 1 ≤ B → B < W → InRange s B x → InRange s B y → w ≡ wrap s W (x -ℤ y) → Determines s B (x -ℤ y) w
difference-determines s B W x y w h g i j n =
    let a = span s B h in let z = zero-in_range s B h in let p = z.low in let q = z.high in
    let b = i.low in let c = i.high in let d = j.low in let f = j.high in
    spare-determines s B W (x -ℤ y) w h g (omega (arith, ints)) (omega (arith, ints)) n

-- where the test b finds the stored number out of range, the exact one is
pub none-out_of_range : (s : Bool) (B : ℕ) (e w : ℤ) (b : Bool) → Determines s B e w → (IsTrue b ↔ InRange s B w) → b ≡ false → InRange s B e → ⊥
none-out_of_range s B e w b t d f i = let u : IsTrue b = d.1 (subst (λ (v : ℤ). InRange s B v) (sym (t.1 i)) i) in cc

-- the storage has the sum, and where there is a sign the difference
pub sum-stays : (s : Bool) (B W : ℕ) (x y w : ℤ) → 1 ≤ B → B < W → InRange s B x → InRange s B y → w ≡ wrap s W (x +ℤ y) → w ≡ x +ℤ y
sum-stays false B W x y w h g i j n =
    let p = twice B W h g in let b = i.low in let c = i.high in let d = j.low in let f = j.high in
    n ∙ wrap-of_in_range false W (x +ℤ y) (omega arith) (record { low = omega (arith, ints); high = omega (arith, ints) })
sum-stays true B W x y w h g i j n =
    let p = pow_le B (W - 1) (omega arith) in let k = pow_half B h in let b = i.low in let c = i.high in let d = j.low in let f = j.high in
    n ∙ wrap-of_in_range true W (x +ℤ y) (omega arith) (record { low = omega (arith, ints); high = omega (arith, ints) })

pub difference-stays : (s : Bool) (B W : ℕ) (x y w : ℤ) → s ≡ true → 1 ≤ B → B < W → InRange s B x → InRange s B y → w ≡ wrap s W (x -ℤ y) → w ≡ x -ℤ y
difference-stays false B W x y w t h g i j n = cc
difference-stays true B W x y w t h g i j n =
    let p = pow_le B (W - 1) (omega arith) in let k = pow_half B h in let b = i.low in let c = i.high in let d = j.low in let f = j.high in
    n ∙ wrap-of_in_range true W (x -ℤ y) (omega arith) (record { low = omega (arith, ints); high = omega (arith, ints) })

-- the truncation of the stored number is the truncation of the exact one
pub wrap-stays : (s : Bool) (B W : ℕ) (e w n : ℤ) → 1 ≤ B → B ≤ W → n ≡ wrap s B w → w ≡ wrap s W e → n ≡ wrap s B e
wrap-stays s B W e w n h g p q = p ∙ ap (wrap s B) q ∙ wrap-wrap s B W e h g

-- the checked result, by the flag of an overflow
pub flag-exact : (s : Bool) (B : ℕ) (e z : ℤ) (b : Bool) → 1 ≤ B → z ≡ wrap s B e → (IsTrue b ↔ ¬ (InRange s B e)) → b ≡ false → InRange s B e × (z ≡ e)
flag-exact s B e z b h m f n =
    let i : InRange s B e = ⊎_elim (λ j. j)
    (⊎_elim (λ u. let t : IsTrue b = f.1 (λ j. let l = j.low in omega (arith, ints)) in cc) (λ u. let t : IsTrue b = f.1 (λ j. let l = j.high in omega (arith, ints)) in cc))
    (three_ways s B e) in
    (i, m ∙ wrap-of_in_range s B e h i)

pub flag-none : (s : Bool) (B : ℕ) (e : ℤ) (b : Bool) → (IsTrue b ↔ ¬ (InRange s B e)) → b ≡ true → InRange s B e → ⊥
flag-none s B e b f n i = f.0 (subst (λ (c : Bool). IsTrue c) (sym n) refl) i

-- the number has its test b, and the exact one is w too
pub out-unless : (s : Bool) (B : ℕ) (e w : ℤ) (b : Bool) → w ≡ e → (IsTrue b ↔ InRange s B w) → IsTrue (not b) ↔ ¬ (InRange s B e)
out-unless s B e w true k q = ((λ t. cc), (λ n. absurd (n (subst (λ (v : ℤ). InRange s B v) k (q.0 refl)))))
out-unless s B e w false k q = ((λ t i. let u : IsTrue false = q.1 (subst (λ (v : ℤ). InRange s B v) (sym k) i) in cc), (λ t. refl))

-- a product is out of range where the storage says so, and where what it keeps is
pub product-overflow : (s : Bool) (B W : ℕ) (e w : ℤ) (o b : Bool) → 1 ≤ B → B ≤ W → w ≡ wrap s W e → (IsTrue o ↔ ¬ (InRange s W e)) → (IsTrue b ↔ InRange s B w)
    → IsTrue (o || not b) ↔ ¬ (InRange s B e)
product-overflow s B W e w true b h g m p q = ((λ t i. p.0 refl (InRange-wider s B W e h g i)), (λ t. refl))
product-overflow s B W e w false b h g m p q = out-unless s B e w b (flag-exact s W e w false (omega arith) m p refl).1 q

-- a product that the storage has
pub product-determines : (s : Bool) (B W : ℕ) (e w : ℤ) (o : Bool) → 1 ≤ B → B ≤ W → w ≡ wrap s W e → (IsTrue o ↔ ¬ (InRange s W e)) → o ≡ false → Determines s B e w
product-determines s B W e w o h g m p n = equal-determines s B e w (flag-exact s W e w o (omega arith) m p n).1
