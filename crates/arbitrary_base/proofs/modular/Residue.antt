-- The residue, and the number of a type that is congruent.
use Rattle.std.specs.Prelude.{◌≡◌, ℕ, ℤ, Bool, pos, negsuc, ◌+ℤ◌, ◌-ℤ◌, ◌+◌, ◌*◌, ◌/◌, ◌%◌, ◌^◌, ◌≤◌, ◌<◌, unsigned_abs}
use Rattle.std.proofs.Common.{arith, ap, sym, ◌∙◌, mod-lt}
use Rattle.std.proofs.lemmas.Int.{ints}
use Rattle.std.proofs.lemmas.Nat.{mod-mul-add, pow_pos}
use Rattle.arbitrary_base.specs.Range.{lo, InRange}
use Rattle.arbitrary_base.specs.Residue.{Congruent, residue, wrap}
use Rattle.arbitrary_base.proofs.integers.Ring.{pos-unsigned_abs}
use Rattle.arbitrary_base.proofs.modular.Congruence.{span, Congruent-from_apart, Apart-from_congruent, Congruent-refl, Congruent-sub, Congruent-sym, Congruent-trans}

pub residue-lt : (B : ℕ) (x : ℤ) → residue B x < 2 ^ B
unfolding residue
residue-lt B (pos a) = mod-lt a (pow_pos B)
residue-lt B (negsuc a) = let h = pow_pos B in omega arith

pub residue-congruent : (B : ℕ) (x : ℤ) → Congruent B (pos (residue B x)) x
unfolding residue
residue-congruent B (pos a) = Congruent-from_apart B _ (pos a) (a / 2 ^ B, 0, omega (arith, ints))
residue-congruent B (negsuc a) =
    let h = mod-lt a (pow_pos B) in
    Congruent-from_apart B _ (negsuc a) (0, a / 2 ^ B + 1, omega (arith, ints))

-- ---- wrap

pub wrap-in_range : (s : Bool) (B : ℕ) (x : ℤ) → 1 ≤ B → InRange s B (wrap s B x)
unfolding wrap
wrap-in_range s B x h =
    let e = span s B h in
    let r = residue-lt B (x -ℤ lo s B) in
    record { low = omega (arith, ints); high = omega (arith, ints) }

pub wrap-congruent : (s : Bool) (B : ℕ) (x : ℤ) → Congruent B (wrap s B x) x
unfolding wrap
wrap-congruent s B x =
    let a = Apart-from_congruent B _ _ (residue-congruent B (x -ℤ lo s B)) in
    let e = a.2 in
    Congruent-from_apart B _ x (a.0, a.1, omega (arith, ints))

pub congruent-wrap : (s : Bool) (B : ℕ) (x : ℤ) → Congruent B x (wrap s B x)
congruent-wrap s B x = Congruent-sym B (wrap s B x) x (wrap-congruent s B x)

-- two numbers of the type that are congruent are the same
pub congruent-same : (s : Bool) (B : ℕ) (x y : ℤ) → 1 ≤ B → InRange s B x → InRange s B y → Congruent B x y → x ≡ y
congruent-same s B x y h f g c =
    let e = span s B h in
    let a = Apart-from_congruent B x y c in
    let m = parts s B x h f in
    let n = parts s B y h g in
    let q : x +ℤ pos (a.0 * 2 ^ B) ≡ y +ℤ pos (a.1 * 2 ^ B) = a.2 in
    let em : x ≡ lo s B +ℤ pos m.0 = m.2 in
    let en : y ≡ lo s B +ℤ pos n.0 = n.2 in
    let t : a.0 * 2 ^ B + m.0 ≡ a.1 * 2 ^ B + n.0 = omega (arith, ints) in
    let same : m.0 ≡ n.0 = sym (mod-mul-add a.0 (2 ^ B) m.0 m.1) ∙ ap (λ (k : ℕ). k % 2 ^ B) t ∙ mod-mul-add a.1 (2 ^ B) n.0 n.1 in
    omega (arith, ints)
  where
    parts : (s : Bool) (B : ℕ) (x : ℤ) → 1 ≤ B → InRange s B x → (n : ℕ) × (n < 2 ^ B) × (x ≡ lo s B +ℤ pos n)
    parts s B x h f =
        let e = span s B h in
        let n = unsigned_abs (x -ℤ lo s B) in
        let is : pos n ≡ x -ℤ lo s B = pos-unsigned_abs (x -ℤ lo s B) (omega (arith, ints)) in
        (n, omega (arith, ints), omega (arith, ints))

pub wrap-unique : (s : Bool) (B : ℕ) (x y : ℤ) → 1 ≤ B → InRange s B y → Congruent B y x → wrap s B x ≡ y
wrap-unique s B x y h f c =
    congruent-same s B (wrap s B x) y h (wrap-in_range s B x h) f
    (Congruent-trans B (wrap s B x) x y (wrap-congruent s B x) (Congruent-sym B y x c))

pub wrap-of_in_range : (s : Bool) (B : ℕ) (x : ℤ) → 1 ≤ B → InRange s B x → wrap s B x ≡ x
wrap-of_in_range s B x h f = wrap-unique s B x x h f (Congruent-refl B x)

-- congruent numbers have one residue, and wrap alike
pub same-residue : (B : ℕ) (x y : ℤ) → Congruent B x y → residue B x ≡ residue B y
unfolding residue
same-residue B x y c = ap unsigned_abs c.remainders

pub wrap-same : (s : Bool) (B : ℕ) (x y : ℤ) → Congruent B x y → wrap s B x ≡ wrap s B y
unfolding wrap
wrap-same s B x y c =
    ap (λ (n : ℕ). lo s B +ℤ pos n) (same-residue B (x -ℤ lo s B) (y -ℤ lo s B) (Congruent-sub B x y (lo s B) (lo s B) c (Congruent-refl B (lo s B))))
