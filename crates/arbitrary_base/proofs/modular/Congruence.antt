-- Congruence modulo a power of two.
use Rattle.std.specs.Prelude.{◌≡◌, ℕ, ℤ, Bool, true, false, zero, suc, pos, negsuc, ◌+ℤ◌, ◌-ℤ◌, ◌*ℤ◌, ◌+◌, ◌*◌, ◌-◌, ◌^◌, ◌≤◌, ◌/◌, ◌%◌, ◌<◌}
use Rattle.std.proofs.Common.{arith, refl, ap, sym, ◌∙◌, pow-add, mod-lt}
use Rattle.std.specs.Int.{int_rem_euclid}
use Rattle.std.proofs.Math.Nat.{add-mul, add-mul-mod_self_right, div-add-mod', mul-le-mul_left}
use Rattle.std.proofs.lemmas.Int.{int_rem_euclid_is, ints}
use Rattle.std.proofs.lemmas.Nat.{pow_pos}
use Rattle.std.proofs.Math.Pow.{pow_mono}
use Rattle.std.proofs.Math.IntN.{*ℤ_comm}
use Rattle.arbitrary_base.specs.Range.{lo, hi}
use Rattle.arbitrary_base.specs.Residue.{Congruent}
use Rattle.arbitrary_base.proofs.integers.Ring.{sub-mul_z, mul_assoc_z}

-- a power of two is twice the one below it
pub pow_half : (B : ℕ) → 1 ≤ B → 2 ^ B ≡ 2 * 2 ^ (B - 1)
pow_half zero h = absurd (omega arith)
pow_half (suc n) h = let e : suc n - 1 ≡ n = omega arith in rw e (omega arith)

-- the range has 2 ^ B numbers
pub span : (s : Bool) (B : ℕ) → 1 ≤ B → hi s B ≡ lo s B +ℤ pos (2 ^ B) -ℤ pos 1
span false B h = omega (arith, ints)
span true B h = let e = pow_half B h in omega (arith, ints)

pub pow_split : (A B : ℕ) → A ≤ B → 2 ^ B ≡ 2 ^ (B - A) * 2 ^ A
pow_split A B h = let e : B ≡ (B - A) + A = omega arith in ap (λ (n : ℕ). 2 ^ n) e ∙ pow-add 2 (B - A) A

pub pow_le : (A B : ℕ) → A ≤ B → 2 ^ A ≤ 2 ^ B
pow_le A B h = pow_mono h

-- ---- congruence

quotient-and_remainder : (x : ℤ) (n : ℕ) → 0 < n → (q : ℤ) × (x ≡ q *ℤ pos n +ℤ int_rem_euclid x (pos n))
quotient-and_remainder (pos a) n p =
    let w = div-add-mod' a n in
    let r : int_rem_euclid (pos a) (pos n) ≡ pos (a % n) = refl in
    (pos (a / n), omega (arith, ints))
quotient-and_remainder (negsuc a) n p =
    let w = div-add-mod' a n in
    let l = mod-lt a p in
    let r : int_rem_euclid (negsuc a) (pos n) ≡ pos (n - 1 - a % n) = refl in
    (negsuc (a / n), omega (arith, ints))

-- how many times 2 ^ B they are apart
pub times : (B : ℕ) (x y : ℤ) → Congruent B x y → (t : ℤ) × (x -ℤ y ≡ t *ℤ pos (2 ^ B))
times B x y c =
    let n = 2 ^ B in
    let e = c.remainders in
    let v = quotient-and_remainder x n (pow_pos B) in
    let w = quotient-and_remainder y n (pow_pos B) in
    let f = v.1 in
    let g = w.1 in
    let d = sub-mul_z v.0 w.0 (pos n) in
    (v.0 -ℤ w.0, omega (arith, ints))

-- the same with numbers from 0 up, which `omega` reads
abbrev pub Apart : ℕ → ℤ → ℤ → Type 0
Apart B x y = (j : ℕ) × (k : ℕ) × (x +ℤ pos (j * 2 ^ B) ≡ y +ℤ pos (k * 2 ^ B))

pub Congruent-from_apart : (B : ℕ) (x y : ℤ) → Apart B x y → Congruent B x y
Congruent-from_apart B (pos x) y a =
    let n = 2 ^ B in
    let e : y +ℤ pos (a.1 * n) ≡ pos (x + a.0 * n) = let f = a.2 in omega (arith, ints) in
    record { remainders = ap pos (sym (add-mul-mod_self_right x a.0 n)) ∙ sym (int_rem_euclid_is y (pos n) n a.1 (x + a.0 * n) (pow_pos B) refl e) }
Congruent-from_apart B (negsuc x) y a =
    let n = 2 ^ B in
    let p = pow_pos B in
    let k = suc x * n - suc x in
    let l : suc x * 1 ≤ suc x * n = mul-le-mul_left (suc x) p in
    let d : negsuc x +ℤ pos (suc x * n) ≡ pos k = omega (arith, ints) in
    let f = a.2 in
    let m : (a.1 + suc x) * n ≡ a.1 * n + suc x * n = add-mul a.1 (suc x) n in
    let e : y +ℤ pos ((a.1 + suc x) * n) ≡ pos (k + a.0 * n) = omega (arith, ints) in
    record {
      remainders =
          int_rem_euclid_is (negsuc x) (pos n) n (suc x) k p refl d ∙ ap pos (sym (add-mul-mod_self_right k a.0 n))
          ∙ sym (int_rem_euclid_is y (pos n) n (a.1 + suc x) (k + a.0 * n) p refl e);
    }

pub Apart-from_congruent : (B : ℕ) (x y : ℤ) → Congruent B x y → Apart B x y
Apart-from_congruent B x y c = let t = times B x y c in apart B x y t.0 t.1
  where
    apart : (B : ℕ) (x y t : ℤ) → x -ℤ y ≡ t *ℤ pos (2 ^ B) → Apart B x y
    apart B x y (pos t) e = (0, t, omega (arith, ints))
    apart B x y (negsuc t) e = (suc t, 0, omega (arith, ints))

pub Congruent-refl : (B : ℕ) (x : ℤ) → Congruent B x x
Congruent-refl B x = record { remainders = refl }

pub Congruent-sym : (B : ℕ) (x y : ℤ) → Congruent B x y → Congruent B y x
Congruent-sym B x y c = record { remainders = sym c.remainders }

pub Congruent-trans : (B : ℕ) (x y z : ℤ) → Congruent B x y → Congruent B y z → Congruent B x z
Congruent-trans B x y z c d = record { remainders = c.remainders ∙ d.remainders }

pub Congruent-by_times : (B : ℕ) (x y t : ℤ) → x -ℤ y ≡ t *ℤ pos (2 ^ B) → Congruent B x y
Congruent-by_times B x y (pos t) e = Congruent-from_apart B x y (0, t, omega (arith, ints))
Congruent-by_times B x y (negsuc t) e = Congruent-from_apart B x y (suc t, 0, omega (arith, ints))

pub Congruent-add : (B : ℕ) (x x' y y' : ℤ) → Congruent B x x' → Congruent B y y' → Congruent B (x +ℤ y) (x' +ℤ y')
Congruent-add B x x' y y' c d =
    let a = Apart-from_congruent B x x' c in
    let b = Apart-from_congruent B y y' d in
    let e = a.2 in
    let f = b.2 in
    Congruent-from_apart B (x +ℤ y) (x' +ℤ y') (a.0 + b.0, a.1 + b.1, omega (arith, ints))

pub Congruent-sub : (B : ℕ) (x x' y y' : ℤ) → Congruent B x x' → Congruent B y y' → Congruent B (x -ℤ y) (x' -ℤ y')
Congruent-sub B x x' y y' c d =
    let a = Apart-from_congruent B x x' c in
    let b = Apart-from_congruent B y y' d in
    let e = a.2 in
    let f = b.2 in
    Congruent-from_apart B (x -ℤ y) (x' -ℤ y') (a.0 + b.1, a.1 + b.0, omega (arith, ints))

pub Congruent-mul_left : (B : ℕ) (x x' y : ℤ) → Congruent B x x' → Congruent B (x *ℤ y) (x' *ℤ y)
Congruent-mul_left B x x' y c =
    let k = times B x x' c in
    let m = pos (2 ^ B) in
    let l : (k.0 *ℤ m) *ℤ y ≡ k.0 *ℤ (m *ℤ y) = mul_assoc_z k.0 m y in
    let r : (k.0 *ℤ y) *ℤ m ≡ k.0 *ℤ (y *ℤ m) = mul_assoc_z k.0 y m in
    let s : k.0 *ℤ (m *ℤ y) ≡ k.0 *ℤ (y *ℤ m) = ap (λ (z : ℤ). k.0 *ℤ z) (*ℤ_comm m y) in
    let t : (x -ℤ x') *ℤ y ≡ (k.0 *ℤ m) *ℤ y = ap (λ (z : ℤ). z *ℤ y) k.1 in
    Congruent-by_times B (x *ℤ y) (x' *ℤ y) (k.0 *ℤ y) (sym (sub-mul_z x x' y) ∙ t ∙ l ∙ s ∙ sym r)

pub Congruent-mul : (B : ℕ) (x x' y y' : ℤ) → Congruent B x x' → Congruent B y y' → Congruent B (x *ℤ y) (x' *ℤ y')
Congruent-mul B x x' y y' c d =
    let l = Congruent-mul_left B x x' y c in
    let r = Congruent-mul_left B y y' x' d in
    let r' : Congruent B (x' *ℤ y) (x' *ℤ y') = rw (*ℤ_comm x' y, *ℤ_comm x' y') r in
    Congruent-trans B (x *ℤ y) (x' *ℤ y) (x' *ℤ y') l r'

-- a number that divides more divides less
pub Congruent-narrower : (A B : ℕ) (x y : ℤ) → A ≤ B → Congruent B x y → Congruent A x y
Congruent-narrower A B x y h c =
    let a = Apart-from_congruent B x y c in
    let e = a.2 in
    let p : 2 ^ B ≡ 2 ^ (B - A) * 2 ^ A = pow_split A B h in
    let l : a.0 * 2 ^ B ≡ (a.0 * 2 ^ (B - A)) * 2 ^ A = rw p (omega arith) in
    let r : a.1 * 2 ^ B ≡ (a.1 * 2 ^ (B - A)) * 2 ^ A = rw p (omega arith) in
    Congruent-from_apart A x y (a.0 * 2 ^ (B - A), a.1 * 2 ^ (B - A), rw (← l, ← r) e)
