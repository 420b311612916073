-- A conversion before a sum, a difference or a product whose low bits are used. Callers name the set `conversions`
-- at the end of this file.
use Rattle.std.specs.Prelude.{◌≡◌, ℕ, ℤ, zero, suc, Bool, false, pos, negsuc, unsigned_abs, ◌+ℤ◌, ◌-ℤ◌, ◌*ℤ◌, ◌+◌, ◌*◌, ◌/◌, ◌%◌, ◌^◌, ◌≤◌, ◌<◌}
use Rattle.std.specs.Int.{Width, cast_signed, cast_unsigned}
use Rattle.std.proofs.Common.{arith, refl, ap, sym, subst, ◌∙◌, div-add-mod', to_z-of_z}
use Rattle.std.proofs.lemmas.Grind.{and_numeral}
use Rattle.std.proofs.lemmas.Int.{ints}
use lib.Signed.{mag}
use mir.Val.{hbits}
use Rattle.arbitrary_base.specs.Range.{lo}
use Rattle.arbitrary_base.specs.Residue.{Congruent, wrap}
use Rattle.arbitrary_base.proofs.modular.Congruence.{Congruent-refl, Congruent-sym, Congruent-add, Congruent-sub, Congruent-mul, Congruent-narrower, Congruent-by_times}
use Rattle.arbitrary_base.proofs.storages.Primitive.{wrap-pos}
use Rattle.arbitrary_base.proofs.modular.Residue.{residue-lt, wrap-congruent, wrap-same}

module _ (s t : Bool) (A B : ℕ) (x y : ℤ) (wider : A ≤ B) where
  low : Congruent A (wrap t B y) y
  low = Congruent-narrower A B (wrap t B y) y wider (wrap-congruent t B y)

  pub sum-right : wrap s A (x +ℤ wrap t B y) ≡ wrap s A (x +ℤ y)
  sum-right = wrap-same s A _ _ (Congruent-add A x x (wrap t B y) y (Congruent-refl A x) low)

  pub sum-left : wrap s A (wrap t B y +ℤ x) ≡ wrap s A (y +ℤ x)
  sum-left = wrap-same s A _ _ (Congruent-add A (wrap t B y) y x x low (Congruent-refl A x))

  pub difference-right : wrap s A (x -ℤ wrap t B y) ≡ wrap s A (x -ℤ y)
  difference-right = wrap-same s A _ _ (Congruent-sub A x x (wrap t B y) y (Congruent-refl A x) low)

  pub difference-left : wrap s A (wrap t B y -ℤ x) ≡ wrap s A (y -ℤ x)
  difference-left = wrap-same s A _ _ (Congruent-sub A (wrap t B y) y x x low (Congruent-refl A x))

  pub product-right : wrap s A (x *ℤ wrap t B y) ≡ wrap s A (x *ℤ y)
  product-right = wrap-same s A _ _ (Congruent-mul A x x (wrap t B y) y (Congruent-refl A x) low)

  pub product-left : wrap s A (wrap t B y *ℤ x) ≡ wrap s A (y *ℤ x)
  product-left = wrap-same s A _ _ (Congruent-mul A (wrap t B y) y x x low (Congruent-refl A x))

-- the same for a primitive that wraps, at its own width
pub word_sum-right : (B a b m : ℕ) (y : ℤ) → m ≡ 2 ^ B → 1 ≤ B → pos b ≡ wrap false B y → Congruent B (pos ((a + b) % m)) (pos a +ℤ y)
word_sum-right B a b m y e h f =
    let total : pos (a + b) ≡ pos a +ℤ pos b = omega (arith, ints) in
    let w : pos ((a + b) % m) ≡ wrap false B (pos a +ℤ y) =
    ap (λ (n : ℕ). pos ((a + b) % n)) e ∙ sym (wrap-pos B (a + b) h) ∙ ap (wrap false B) (total ∙ ap (λ (z : ℤ). pos a +ℤ z) f)
    ∙ sum-right false false B B (pos a) y (omega arith) in
    subst (λ (z : ℤ). Congruent B z (pos a +ℤ y)) (sym w) (wrap-congruent false B (pos a +ℤ y))

-- two numbers whose difference leaves no remainder: what is said of each step is added up
pub congruent-by_remainder : (B : ℕ) (x y : ℤ) → unsigned_abs (x -ℤ y) % 2 ^ B ≡ 0 → Congruent B x y
congruent-by_remainder B x y e = by-sign (x -ℤ y) refl e
  where
    by-sign : (z : ℤ) → z ≡ x -ℤ y → unsigned_abs z % 2 ^ B ≡ 0 → Congruent B x y
    by-sign (pos n) d e =
        let q : n ≡ n / 2 ^ B * 2 ^ B = omega (arith, div-add-mod' n (2 ^ B)) in
        Congruent-by_times _ _ _ (pos (n / 2 ^ B)) (omega (arith, ints))
    by-sign (negsuc n) d e =
        let q : suc n ≡ suc n / 2 ^ B * 2 ^ B = omega (arith, div-add-mod' (suc n) (2 ^ B)) in
        Congruent-sym B y x (Congruent-by_times _ _ _ (pos (suc n / 2 ^ B)) (omega (arith, ints)))

-- a primitive with a sign, as a generic call takes it and as a function gives it
pub signed_primitive : (w : Width) (x : ℤ) → mag x < 2 ^ hbits w → cast_signed w (cast_unsigned w x) ≡ x
signed_primitive w x h = to_z-of_z (record { sfits = h })

pub ruleset conversions = (wrap-congruent, signed_primitive, sum-right, sum-left, difference-right, difference-left, product-right, product-left, word_sum-right, congruent-by_remainder)

-- steps that wrap, one after another, and the low bits under a written mask, up to a multiple of the numbers of the type
pub ruleset congruences = (congruent-by_remainder, and_numeral, ints)
