-- An overflow of a sum or a difference, computed from the signs of its operands and of the wrapped result. Callers
-- name the set `overflow_bits`.
use Rattle.std.specs.Bool.{beq}
use Rattle.std.specs.Ordering.{int_cmp, is_lt}
use Rattle.std.specs.Prelude.{not, pos, true, ℕ, ℤ, ◌+ℤ◌, ◌-ℤ◌, ◌-◌, ◌<ℤ◌, ◌^◌, ◌↔◌, ◌≡◌, ◌≤ℤ◌, ◌≤◌, ◌⊎◌}
use Rattle.std.proofs.Common.{arith, inl, inr, refl}
use Rattle.std.proofs.lemmas.Int.{ints}
use Rattle.std.proofs.lemmas.Nat.{pow_pos}
use Rattle.arbitrary_base.specs.Operation.{bitwise_and, bitwise_xor, wrapped_difference, wrapped_sum}
use Rattle.arbitrary_base.specs.Range.{InRange, hi, in_range, lo}
use Rattle.arbitrary_base.specs.Residue.{Congruent}
use Rattle.arbitrary_base.proofs.LawProof.{out-of_range_tested}
use Rattle.arbitrary_base.proofs.modular.Congruence.{Congruent-by_times, Congruent-refl, Congruent-trans, pow_half}
use Rattle.arbitrary_base.proofs.modular.Residue.{congruent-same}
use Rattle.arbitrary_base.proofs.operations.BitsAndSums.{xor-in_range}
use Rattle.arbitrary_base.proofs.operations.Bitwise.{bitwise_and-commutes, bitwise_xor-commutes}
use Rattle.arbitrary_base.proofs.operations.Definition.{bits-xor}
use Rattle.arbitrary_base.proofs.operations.WrappedRing.{difference-congruent, difference-in_range, sum-congruent, sum-in_range}
use Rattle.arbitrary_base.proofs.storages.CheckedSum.{three_ways}
use Rattle.arbitrary_laws.proofs.orders.Order.{and-negative, lt-tested, sign-pointwise, xor-negative}

-- ---- a sum or a difference passes its range by less than once

Once : ℕ → ℤ → ℤ → Type 0
Once B z r = (InRange true B z × (r ≡ z)) ⊎ (((z <ℤ lo true B) × (r ≡ z +ℤ pos (2 ^ B))) ⊎ ((hi true B <ℤ z) × (r ≡ z -ℤ pos (2 ^ B))))

module _ (B : ℕ) (z r : ℤ) (h : 1 ≤ B) (c : Congruent B r z) where
  up : Congruent B r (z +ℤ pos (2 ^ B))
  up = Congruent-trans B r z _ c (Congruent-by_times _ _ _ (pos 0 -ℤ pos 1) (omega (arith, ints)))

  down : Congruent B r (z -ℤ pos (2 ^ B))
  down = Congruent-trans B r z _ c (Congruent-by_times _ _ _ (pos 1) (omega (arith, ints)))

  once : InRange true B r → (pos 0 -ℤ pos (2 ^ B)) ≤ℤ z → z <ℤ pos (2 ^ B) → Once B z r
  unfolding Once
  once f l u =
      let p = pow_half B h in
      elim (three_ways true B z) [
        | inl i ↦ inl (i, congruent-same true B r z h f i c)
        | inr m ↦ elim m [
          | inl a ↦ inr (inl (a, congruent-same true B r _ h f (record { low = omega (arith, ints, a); high = omega (arith, ints, a) }) up))
          | inr a ↦ inr (inr (a, congruent-same true B r _ h f (record { low = omega (arith, ints, a); high = omega (arith, ints, a) }) down))
        ]
      ]

-- ---- signs

-- that `z` has the sign of `x ^ y`: it is negative where one of the two is and the other isn't
abbrev Signs : ℤ → ℤ → ℤ → Type 0
Signs x y z = (z <ℤ pos 0) ↔ (((x <ℤ pos 0) × (pos 0 ≤ℤ y)) ⊎ ((pos 0 ≤ℤ x) × (y <ℤ pos 0)))

-- that `z` has the sign of `x & y`: it is negative where both are
abbrev Both : ℤ → ℤ → ℤ → Type 0
Both x y z = (z <ℤ pos 0) ↔ ((x <ℤ pos 0) × (y <ℤ pos 0))

sum-kept : (x y r p q n : ℤ) → r ≡ x +ℤ y → Signs x r p → Signs y r q → Both p q n → n <ℤ pos 0 → ⊥
sum-kept x y r p q n e a b c d = grind (arith, ints)

sum-above : (x y r p q n : ℤ) → pos 0 ≤ℤ x → pos 0 ≤ℤ y → r <ℤ pos 0 → Signs x r p → Signs y r q → Both p q n → n <ℤ pos 0
sum-above x y r p q n f g e a b c = grind (arith, ints)

sum-below : (x y r p q n : ℤ) → x <ℤ pos 0 → y <ℤ pos 0 → pos 0 ≤ℤ r → Signs x r p → Signs y r q → Both p q n → n <ℤ pos 0
sum-below x y r p q n f g e a b c = grind (arith, ints)

difference-kept : (x y r p q n : ℤ) → r ≡ x -ℤ y → Signs x y p → Signs x r q → Both p q n → n <ℤ pos 0 → ⊥
difference-kept x y r p q n e a b c d = grind (arith, ints)

difference-above : (x y r p q n : ℤ) → pos 0 ≤ℤ x → y <ℤ pos 0 → r <ℤ pos 0 → Signs x y p → Signs x r q → Both p q n → n <ℤ pos 0
difference-above x y r p q n f g e a b c = grind (arith, ints)

difference-below : (x y r p q n : ℤ) → x <ℤ pos 0 → pos 0 ≤ℤ y → pos 0 ≤ℤ r → Signs x y p → Signs x r q → Both p q n → n <ℤ pos 0
difference-below x y r p q n f g e a b c = grind (arith, ints)

-- an overflow by the sign of a number `n`, where `r` is the result that wraps
sign-decides : (B : ℕ) (z r n : ℤ) → Once B z r → (r ≡ z → n <ℤ pos 0 → ⊥) → (z <ℤ lo true B → r ≡ z +ℤ pos (2 ^ B) → n <ℤ pos 0)
    → (hi true B <ℤ z → r ≡ z -ℤ pos (2 ^ B) → n <ℤ pos 0) → (n <ℤ pos 0) ↔ ¬ (InRange true B z)
unfolding Once
sign-decides B z r n o kept below above =
    elim o [
      | inl d ↦ ((λ w. absurd (kept d.1 w)), (λ w. absurd (w d.0)))
      | inr e ↦ elim e [
        | inl d ↦ ((λ w t. let q = t.low in absurd (omega (arith, ints, d.0, q))), (λ w. below d.0 d.1))
        | inr d ↦ ((λ w t. let q = t.high in absurd (omega (arith, ints, d.0, q))), (λ w. above d.0 d.1))
      ]
    ]

module _ (B : ℕ) (x y : ℤ) (h : 1 ≤ B) (f : InRange true B x) (g : InRange true B y) where
  by-ends : (n z : ℤ) → (n <ℤ pos 0) ↔ ¬ (InRange true B z) → (n <ℤ pos 0) ↔ ((z <ℤ lo true B) ⊎ (hi true B <ℤ z))
  by-ends n z t = (
    (λ w. elim (three_ways true B z) [ inl i ↦ absurd (t.0 w i) | inr e ↦ e ]),
    (λ e. t.1 (λ i. let l = i.low in let u = i.high in elim e [ inl a ↦ absurd (omega (arith, ints, a)) | inr a ↦ absurd (omega (arith, ints, a)) ])),
  )

  pub sum-overflow_sign : (bitwise_and true B (bitwise_xor true B x (wrapped_sum true B x y)) (bitwise_xor true B y (wrapped_sum true B x y)) <ℤ pos 0)
      ↔ ¬ (InRange true B (x +ℤ y))
  sum-overflow_sign =
      let r = wrapped_sum true B x y in
      let i = sum-in_range true B x y h in
      let a = xor-negative B x r h f i in
      let b = xor-negative B y r h g i in
      let c = and-negative B _ _ h (xor-in_range true B x r h) (xor-in_range true B y r h) in
      let p = pow_half B h in
      let o = pow_pos (B - 1) in
      let k = f.low in
      let l = f.high in
      let m = g.low in
      let n = g.high in
      let u = i.low in
      let v = i.high in
      sign-decides B (x +ℤ y) r _
      (once B (x +ℤ y) r h (sum-congruent true B x y x y (Congruent-refl B x) (Congruent-refl B y)) i (omega (arith, ints)) (omega (arith, ints)))
      (λ e. sum-kept x y r _ _ _ e a b c)
      (λ d e. sum-below x y r _ _ _ (omega (arith, ints, d)) (omega (arith, ints, d)) (omega (arith, ints, d, e)) a b c)
      (λ d e. sum-above x y r _ _ _ (omega (arith, ints, d)) (omega (arith, ints, d)) (omega (arith, ints, d, e)) a b c)

  pub difference-overflow_sign : (bitwise_and true B (bitwise_xor true B x y) (bitwise_xor true B x (wrapped_difference true B x y)) <ℤ pos 0)
      ↔ ¬ (InRange true B (x -ℤ y))
  difference-overflow_sign =
      let r = wrapped_difference true B x y in
      let i = difference-in_range true B x y h in
      let a = xor-negative B x y h f g in
      let b = xor-negative B x r h f i in
      let c = and-negative B _ _ h (xor-in_range true B x y h) (xor-in_range true B x r h) in
      let p = pow_half B h in
      let o = pow_pos (B - 1) in
      let k = f.low in
      let l = f.high in
      let m = g.low in
      let n = g.high in
      let u = i.low in
      let v = i.high in
      sign-decides B (x -ℤ y) r _
      (once B (x -ℤ y) r h (difference-congruent true B x y x y (Congruent-refl B x) (Congruent-refl B y)) i (omega (arith, ints)) (omega (arith, ints)))
      (λ e. difference-kept x y r _ _ _ e a b c)
      (λ d e. difference-below x y r _ _ _ (omega (arith, ints, d)) (omega (arith, ints, d)) (omega (arith, ints, d, e)) a b c)
      (λ d e. difference-above x y r _ _ _ (omega (arith, ints, d)) (omega (arith, ints, d)) (omega (arith, ints, d, e)) a b c)

  pub sum-overflow_ends : (bitwise_and true B (bitwise_xor true B x (wrapped_sum true B x y)) (bitwise_xor true B y (wrapped_sum true B x y)) <ℤ pos 0)
      ↔ (((x +ℤ y) <ℤ lo true B) ⊎ (hi true B <ℤ (x +ℤ y)))
  sum-overflow_ends = by-ends _ (x +ℤ y) sum-overflow_sign

  pub difference-overflow_ends : (bitwise_and true B (bitwise_xor true B x y) (bitwise_xor true B x (wrapped_difference true B x y)) <ℤ pos 0)
      ↔ (((x -ℤ y) <ℤ lo true B) ⊎ (hi true B <ℤ (x -ℤ y)))
  difference-overflow_ends = by-ends _ (x -ℤ y) difference-overflow_sign

  by-flag : (n z : ℤ) → (n <ℤ pos 0) ↔ ¬ (InRange true B z) → is_lt (int_cmp n (pos 0)) ≡ not (in_range true B z)
  by-flag n z t =
      let e = lt-tested n (pos 0) in
      out-of_range_tested (is_lt (int_cmp n (pos 0))) true B z ((λ w. t.0 (e.0 w)), (λ w. e.1 (t.1 w)))

  pub sum-overflow_flag : is_lt (int_cmp (bitwise_and true B (bitwise_xor true B x (wrapped_sum true B x y)) (bitwise_xor true B y (wrapped_sum true B x y))) (pos 0))
      ≡ not (in_range true B (x +ℤ y))
  sum-overflow_flag = by-flag _ (x +ℤ y) sum-overflow_sign

  pub difference-overflow_flag : is_lt (int_cmp (bitwise_and true B (bitwise_xor true B x y) (bitwise_xor true B x (wrapped_difference true B x y))) (pos 0))
      ≡ not (in_range true B (x -ℤ y))
  difference-overflow_flag = by-flag _ (x -ℤ y) difference-overflow_sign

  pub xor-sign_differs : is_lt (int_cmp (bitwise_xor true B x y) (pos 0)) ≡ not (beq (is_lt (int_cmp x (pos 0))) (is_lt (int_cmp y (pos 0))))
  xor-sign_differs =
      let e = sign-pointwise (λ a b. not (beq a b)) B x y _ refl h f g (xor-in_range true B x y h) (bits-xor true B x y) in
      let a = lt-tested (bitwise_xor true B x y) (pos 0) in
      let b = lt-tested x (pos 0) in
      let c = lt-tested y (pos 0) in
      grind (arith, e, a, b, c)

-- an overflow by the signs of a sum and of a difference
pub ruleset overflow_bits = (lt-tested, sum-overflow_ends, difference-overflow_ends, sum-overflow_flag, difference-overflow_flag, bitwise_and-commutes, bitwise_xor-commutes)

-- whether two signs differ
pub ruleset sign_of_xor = (xor-sign_differs)
