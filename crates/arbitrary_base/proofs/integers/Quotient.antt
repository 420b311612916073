-- Quotients, rounded toward zero.
use Rattle.std.specs.Prelude.{◌≡◌, ℕ, ℤ, Bool, true, false, suc, pos, negsuc, neg_ℤ, ◌-ℤ◌, ◌≤ℤ◌, ◌<ℤ◌, ◌-◌, ◌^◌, ◌≤◌, int_lt, int_div, FitsSigned, ◌&&◌}
use Rattle.std.specs.Int.{Width, int_wrapping_div, cast_signed, cast_unsigned}
use Rattle.std.proofs.Common.{arith, refl, ◌∙◌, div-le_self}
use Rattle.std.proofs.lemmas.Int.{ints, by_lt_z}
use Rattle.std.proofs.lemmas.Nat.{pow_pos}
use mir.Val.{bits, hbits}
use Rattle.arbitrary_base.specs.Range.{lo, hi, InRange}
use Rattle.arbitrary_base.specs.Residue.{wrap}
use Rattle.arbitrary_base.proofs.modular.Congruence.{pow_half, Congruent-from_apart}
use Rattle.arbitrary_base.proofs.modular.Residue.{wrap-same, wrap-of_in_range}
use Rattle.arbitrary_base.proofs.storages.Primitive.{pow_bits, signed-from_small}
use Rattle.arbitrary_base.proofs.storages.CheckedSum.{wrap-above}

-- two numbers below 0 and a number below 0: as their quotient it would have the wrong sign
abbrev turned : ℤ → ℤ → ℤ → Bool
turned x y q = int_lt x (pos 0) && (int_lt y (pos 0) && int_lt q (pos 0))

-- a quotient is no further from 0 than the dividend
pub quot-low : (h : ℕ) (a b : ℤ) → neg_ℤ (pos h) ≤ℤ a → a ≤ℤ pos h → neg_ℤ (pos h) ≤ℤ int_div a b
quot-low h (pos a) (pos b) f g = let d = div-le_self a b in omega (arith, ints)
quot-low h (pos a) (negsuc b) f g = let d = div-le_self a (suc b) in omega (arith, ints)
quot-low h (negsuc a) (pos b) f g = let d = div-le_self (suc a) b in omega (arith, ints)
quot-low h (negsuc a) (negsuc b) f g = let d = div-le_self (suc a) (suc b) in omega (arith, ints)

pub quot-high : (h : ℕ) (a b : ℤ) → neg_ℤ (pos h) ≤ℤ a → a ≤ℤ pos h → int_div a b ≤ℤ pos h
quot-high h (pos a) (pos b) f g = let d = div-le_self a b in omega (arith, ints)
quot-high h (pos a) (negsuc b) f g = let d = div-le_self a (suc b) in omega (arith, ints)
quot-high h (negsuc a) (pos b) f g = let d = div-le_self (suc a) b in omega (arith, ints)
quot-high h (negsuc a) (negsuc b) f g = let d = div-le_self (suc a) (suc b) in omega (arith, ints)

wrapped : (w : Width) (z : ℤ) → neg_ℤ (pos (2 ^ hbits w)) ≤ℤ z → z ≤ℤ pos (2 ^ hbits w) → cast_signed w (cast_unsigned w z) ≡ wrap true (bits w) z
wrapped w (pos n) f g =
    let p = pow_bits w in let q = pow_pos (hbits w) in
    signed-from_small w n (omega (arith, ints))
wrapped w (negsuc n) f g =
    let p = pow_bits w in let q = pow_pos (hbits w) in
    signed-from_small w (2 ^ bits w - suc n) (omega (arith, ints))
    ∙ wrap-same true (bits w) _ _ (Congruent-from_apart (bits w) _ _ (0, 1, omega (arith, ints)))

pub signed-wrapping_div : (w : Width) (a b : ℤ) → FitsSigned w a → int_wrapping_div w a b ≡ wrap true (bits w) (int_div a b)
signed-wrapping_div w a b f =
    let l : neg_ℤ (pos (2 ^ hbits w)) ≤ℤ a = omega (arith, ints) in
    let h : a ≤ℤ pos (2 ^ hbits w) = omega (arith, ints) in
    wrapped w (int_div a b) (quot-low (2 ^ hbits w) a b l h) (quot-high (2 ^ hbits w) a b l h)

both_below : (x y : ℤ) → x <ℤ pos 0 → y <ℤ pos 0 → pos 0 ≤ℤ int_div x y
both_below (pos a) y f g = absurd (omega (arith, ints))
both_below (negsuc a) (pos b) f g = absurd (omega (arith, ints))
both_below (negsuc a) (negsuc b) f g = omega (arith, ints)

-- a quotient above the dividend's size less one is one of two negative numbers
only_below : (h : ℕ) (x y : ℤ) → 1 ≤ h → x ≤ℤ (pos h -ℤ pos 1) → (pos h -ℤ pos 1) <ℤ int_div x y → (x <ℤ pos 0) × (y <ℤ pos 0)
only_below h (pos a) (pos b) p f g = let d = div-le_self a b in absurd (omega (arith, ints))
only_below h (pos a) (negsuc b) p f g = absurd (omega (arith, ints))
only_below h (negsuc a) (pos b) p f g = absurd (omega (arith, ints))
only_below h (negsuc a) (negsuc b) p f g = (omega (arith, ints), omega (arith, ints))

above_is : (s : Bool) (B : ℕ) (x y q : ℤ) → 1 ≤ B → InRange s B x → InRange s B y → hi s B <ℤ int_div x y → q ≡ wrap s B (int_div x y)
    → (x <ℤ pos 0) × ((y <ℤ pos 0) × (q <ℤ pos 0))
above_is false B (pos a) (pos b) q h f g u e = let d = div-le_self a b in let m = f.high in absurd (omega (arith, ints))
above_is false B (pos a) (negsuc b) q h f g u e = let m = g.low in absurd (omega (arith, ints))
above_is false B (negsuc a) y q h f g u e = let m = f.low in absurd (omega (arith, ints))
above_is true B x y q h f g u e =
    let p = pow_half B h in
    let k = pow_pos (B - 1) in
    let l = f.low in
    let m = f.high in
    let o = only_below (2 ^ (B - 1)) x y k m u in
    let t = quot-high (2 ^ (B - 1)) x y l (omega (arith, ints)) in
    let w : q ≡ int_div x y -ℤ pos (2 ^ B) = e ∙ wrap-above true B (int_div x y) h u (omega (arith, ints)) in
    (o.0, (o.1, omega (arith, ints)))

pub low_enough : (s : Bool) (B : ℕ) (x y : ℤ) → 1 ≤ B → InRange s B x → InRange s B y → lo s B ≤ℤ int_div x y
low_enough false B (pos a) (pos b) h f g = omega (arith, ints)
low_enough false B (pos a) (negsuc b) h f g = let m = g.low in absurd (omega (arith, ints))
low_enough false B (negsuc a) y h f g = let m = f.low in absurd (omega (arith, ints))
low_enough true B x y h f g = let l = f.low in let m = f.high in quot-low (2 ^ (B - 1)) x y l (omega (arith, ints))

pub div-refuses : (s : Bool) (B : ℕ) (x y q : ℤ) → 1 ≤ B → q ≡ wrap s B (int_div x y) → turned x y q ≡ true → InRange s B (int_div x y) → ⊥
div-refuses s B x y q h e t i = by (int_lt x (pos 0)) (int_lt y (pos 0)) (int_lt q (pos 0)) refl refl refl t
  where
    w : q ≡ int_div x y
    w = e ∙ wrap-of_in_range s B (int_div x y) h i

    by : (a b c : Bool) → int_lt x (pos 0) ≡ a → int_lt y (pos 0) ≡ b → int_lt q (pos 0) ≡ c → (a && (b && c)) ≡ true → ⊥
    by true true true k l m n =
        let f : x <ℤ pos 0 = grind (arith, ints) in
        let g : y <ℤ pos 0 = grind (arith, ints) in
        let r : q <ℤ pos 0 = grind (arith, ints) in
        let z = both_below x y f g in
        let v = w in
        omega (arith, ints)
    by true true false k l m n = cc
    by true false c k l m n = cc
    by false b c k l m n = cc

pub div-checks : (s : Bool) (B : ℕ) (x y q : ℤ) → 1 ≤ B → InRange s B x → InRange s B y → q ≡ wrap s B (int_div x y) → turned x y q ≡ false
    → InRange s B (int_div x y) × (q ≡ int_div x y)
div-checks s B x y q h f g e t =
    by_lt_z (hi s B) (int_div x y)
    (λ u. let o = above_is s B x y q h f g u e in
    let a : int_lt x (pos 0) ≡ true = let z = o.0 in grind (arith, ints) in
    let b : int_lt y (pos 0) ≡ true = let z = o.1.0 in grind (arith, ints) in
    let c : int_lt q (pos 0) ≡ true = let z = o.1.1 in grind (arith, ints) in
    let n : turned x y q ≡ true = rw (a, b, c) refl in
    cc)
    (λ v. let i : InRange s B (int_div x y) = record { low = low_enough s B x y h f g; high = v } in
    (i, e ∙ wrap-of_in_range s B (int_div x y) h i))

pub ruleset quotients = (div-refuses, div-checks)
