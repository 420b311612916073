-- The number that a word writes, with or without a minus sign, and whether it is in range of a type.
use Rattle.std.proofs.Common.{◌≡◌, ◌≢◌, ℕ, zero, suc, ◌<◌, ◌≤◌, ◌^◌, ◌-◌, Bool, true, false, cond, List, [], ◌∷◌, ◌++◌, ltb, Option, Some, None, option_map, option_and_then, MatchOption, ℤ, pos, neg_ℤ, unsigned_abs, refl, sym, ap, ◌∙◌, subst, inl, inr, arith, Bor}
use Rattle.std.specs.Bool.{then_some}
use Rattle.std.proofs.lemmas.Bool.{cases_eq, ne_eqb, ltb-false}
use Rattle.std.proofs.lemmas.Int.{ints}
use Rattle.std.proofs.Math.Pow.{pow_mono}
use Rattle.arbitrary_int.specs.Range.{InRange, in_range}
use Rattle.arbitrary_int.specs.Residue.{residue, wrap}
use Rattle.arbitrary_int.proofs.Truncation.{in_range-true, in_range-false}
use Rattle.arbitrary_int.proofs.Residue.{residue-congruent, wrap-in_range, wrap-of_in_range, wrap-same}
use Rattle.bitrun_text.specs.Numeral.{number_in, integer_in, number_below, value_named, IsFar}

pub plain : (word : List ℕ) → ((rest : List ℕ) → word ≢ 45 ∷ rest) → integer_in word ≡ option_map pos (number_in word)
unfolding integer_in number_in
plain [] h = refl
plain (c ∷ cs) h =
    elim (cases_eq c 45) [
      | inl same ↦ absurd (h cs (ap (λ (x : ℕ). x ∷ cs) same))
      | inr other ↦ rw (ne_eqb c 45 other) refl
    ]

pub minus : (digits : List ℕ) → integer_in (45 ∷ digits) ≡ option_map (λ n. neg_ℤ (pos n)) (number_in digits)
unfolding integer_in
minus digits = refl

pub signed_is : (word : List ℕ) (r : Option (Bor (List ℕ))) → MatchOption r ((rest : List ℕ) → word ≢ (45 ∷ []) ++ rest) (λ x. word ≡ (45 ∷ []) ++ x.now)
    → MatchOption r (integer_in word ≡ option_map pos (number_in word)) (λ digits. integer_in word ≡ option_map (λ n. neg_ℤ (pos n)) (number_in digits.now))
signed_is word None h = plain word h
signed_is word (Some x) h = rw h (minus x.now)

-- ---- numbers below the limit

module _ (limit : ℕ) where
  below_some : (o : Option ℕ) (n : ℕ) → option_and_then (λ m. cond (ltb m limit) (Some m) None) o ≡ Some n → o ≡ Some n
  below_some None n e = absurd cc
  below_some (Some m) n e = go (ltb m limit) m n e
    where
      go : (b : Bool) (m n : ℕ) → cond b (Some m) None ≡ Some n → Some m ≡ Some n
      go true m n e = e
      go false m n e = absurd cc

  below_none : (o : Option ℕ) → option_and_then (λ m. cond (ltb m limit) (Some m) None) o ≡ None → MatchOption o (Unit {0}) (λ m. limit ≤ m)
  below_none None e = tt
  below_none (Some m) e = ltb-false m limit (go (ltb m limit) m e)
    where
      go : (b : Bool) (m : ℕ) → cond b (Some m) None ≡ None → b ≡ false
      go true m e = absurd cc
      go false m e = refl

pub near : (word digits : List ℕ) (sign : ℕ → ℤ) (n : ℕ) → integer_in word ≡ option_map sign (number_in digits) → number_below (2 ^ 120) digits ≡ Some n → integer_in word ≡ Some (sign n)
unfolding number_below
near word digits sign n e h = e ∙ ap (option_map sign) (below_some (2 ^ 120) (number_in digits) n h)

pub far : (word digits : List ℕ) (sign : ℕ → ℤ) → ((m : ℕ) → unsigned_abs (sign m) ≡ m) → integer_in word ≡ option_map sign (number_in digits) → number_below (2 ^ 120) digits ≡ None → IsFar (integer_in word)
unfolding number_below
far word digits sign size e h = rw e (stays (number_in digits) (below_none (2 ^ 120) (number_in digits) h))
  where
    stays : (o : Option ℕ) → MatchOption o (Unit {0}) (λ m. 2 ^ 120 ≤ m) → IsFar (option_map sign o)
    stays None h = tt
    stays (Some m) h = rw (size m) h

pub size-pos : (m : ℕ) → unsigned_abs (pos m) ≡ m
size-pos m = refl

pub size-neg : (m : ℕ) → unsigned_abs (neg_ℤ (pos m)) ≡ m
size-neg zero = refl
size-neg (suc m) = refl

-- ---- the numbers of a type

module _ (s : Bool) (B : ℕ) (some : 1 ≤ B) (narrow : B ≤ 120) where
  in_wide : (x : ℤ) → InRange s B x → (unsigned_abs x < 2 ^ 120) × InRange true 128 x
  in_wide x f =
      let whole : 2 ^ B ≤ 2 ^ 120 = pow_mono narrow in
      let less : B - 1 ≤ 119 = omega arith in
      let half : 2 ^ (B - 1) ≤ 2 ^ 119 = pow_mono less in
      by s f whole half
    where
      by : (s : Bool) → InRange s B x → 2 ^ B ≤ 2 ^ 120 → 2 ^ (B - 1) ≤ 2 ^ 119 → (unsigned_abs x < 2 ^ 120) × InRange true 128 x
      by false f whole half = (omega (arith, ints), record { low = omega (arith, ints); high = omega (arith, ints) })
      by true f whole half = (omega (arith, ints), record { low = omega (arith, ints); high = omega (arith, ints) })

  -- and returns it from its 128 bits
  pub from_pattern : (x y : ℤ) (pattern : ℕ) → InRange s B x → pattern ≡ residue 128 x → y ≡ wrap true 128 (pos pattern) → (y ≡ x) × (unsigned_abs x < 2 ^ 120)
  from_pattern x y pattern f p e =
      let wide = in_wide x f in
      let same = wrap-same true 128 (pos (residue 128 x)) x (residue-congruent 128 x) in
      (e ∙ ap (λ (n : ℕ). wrap true 128 (pos n)) p ∙ same ∙ wrap-of_in_range true 128 x (omega arith) wide.1, wide.0)

  module _ (x y : ℤ) (masked : y ≡ wrap s B x) where
    -- an `i128` has every number of the type
    unchanged : wrap true 128 y ≡ y
    unchanged = rw masked (wrap-of_in_range true 128 (wrap s B x) (omega arith) (in_wide (wrap s B x) (wrap-in_range s B x some)).1)

    pub value_kept : wrap true 128 y ≡ x → then_some (in_range s B x) x ≡ Some y
    value_kept e =
        let same : y ≡ x = sym unchanged ∙ e in
        rw (in_range-true s B x (subst (InRange s B) (sym masked ∙ same) (wrap-in_range s B x some))) (ap Some (sym same))

    pub value_lost : wrap true 128 y ≢ x → then_some (in_range s B x) x ≡ None
    value_lost other = rw (in_range-false s B x (λ f. other (unchanged ∙ masked ∙ wrap-of_in_range s B x some f))) refl

  pub far_none : (o : Option ℤ) → IsFar o → option_and_then (λ x. then_some (in_range s B x) x) o ≡ None
  far_none None h = refl
  far_none (Some x) h = rw (in_range-false s B x (λ f. let near = (in_wide x f).0 in omega (arith, near, h))) refl

  pub value-far : (word : List ℕ) → IsFar (integer_in word) → value_named s B word ≡ None
  unfolding value_named
  value-far word h = far_none (integer_in word) h

pub value-near : (s : Bool) (B : ℕ) (word : List ℕ) (x : ℤ) → integer_in word ≡ Some x → value_named s B word ≡ then_some (in_range s B x) x
unfolding value_named
value-near s B word x e = rw e refl
