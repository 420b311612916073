-- Carry, overflow and borrow from bits of a primitive or a `UInt`: how one bit of `&`, `|`, `^` and `!` depends on
-- that bit of the operands, as inequalities, so that sums and differences decide it.
use Rattle.std.specs.Prelude.{◌≡◌, ℕ, ℤ, zero, suc, false, pos, unsigned_abs, ◌+◌, ◌-◌, ◌*◌, ◌/◌, ◌%◌, ◌^◌, ◌<◌, ◌≤◌, ◌+ℤ◌, ◌-ℤ◌}
use Rattle.std.specs.Int.Bits.{bit_and, bit_or, bit_xor, or_add_and, xor_add_and}
use Rattle.std.specs.Int.{bit_at}
use lib.Pow.{pow_mono}
use native.Mathlib.Nat.{zero-div}
use Rattle.std.proofs.Common.{refl, sym, ap, ap₂, ◌∙◌, arith, inl, inr}
use Rattle.std.proofs.lemmas.Bool.{cases_lt}
use Rattle.std.proofs.lemmas.Int.{ints}
use Rattle.std.proofs.lemmas.Nat.{and_le_l, and_shr, le-div, or_shr, shr-shr, xor_shr}
use Rattle.std.proofs.lemmas.Nat.Bits.{and_pow, bit_at_and, bit_at_or, bit_at_xor, bit_at_lowest, bit_at-lt, bit_at-suc}
use Rattle.arbitrary_base.specs.Operation.{wrapped_difference, wrapped_sum}
use Rattle.arbitrary_base.specs.Range.{InRange}
use Rattle.arbitrary_base.specs.Residue.{Congruent, wrap}
use Rattle.arbitrary_base.proofs.integers.Ring.{pos-unsigned_abs}
use Rattle.arbitrary_base.proofs.modular.Congruence.{Congruent-from_apart}
use Rattle.arbitrary_base.proofs.modular.Residue.{wrap-same}
use Rattle.arbitrary_base.proofs.operations.Definition.{difference-is, sum-is}
use Rattle.arbitrary_base.proofs.storages.Primitive.{wrap-pos}
use Rattle.arbitrary_laws.proofs.words.LowestOne.{next, power}

module _ (a b d : ℕ) (c : 0 < d) (p : bit_and d (d - 1) ≡ 0) where
  abbrev place : ℕ
  place = (power d c p).0

  digit : (n : ℕ) → n / d % 2 ≡ bit_at n place
  digit n = ap (λ (i : ℕ). n / i % 2) (power d c p).1

  -- what is above that bit
  over : (n : ℕ) → n / d / 2 ≡ n / 2 ^ (place + 1)
  over n = ap (λ (i : ℕ). n / i / 2) (power d c p).1 ∙ shr-shr n place 1

  pub digit_of_and : (bit_and a b / d ≡ bit_and a b / d) × ((bit_and a b / d / 2 ≤ a / d / 2) × ((bit_and a b / d % 2 ≤ a / d % 2)
      × ((bit_and a b / d % 2 ≤ b / d % 2) × (a / d % 2 + b / d % 2 ≤ bit_and a b / d % 2 + 1))))
  digit_of_and =
      let e = bit_at_and a b place in
      let x = digit a in
      let y = digit b in
      let z = digit (bit_and a b) in
      let l = bit_at-lt a place in
      let m = bit_at-lt b place in
      let o = and_shr a b (place + 1) in
      let q = and_le_l (a / 2 ^ (place + 1)) (b / 2 ^ (place + 1)) in
      (refl, (omega (arith, over a, over (bit_and a b), o, q), (omega (arith, e, x, y, z, l, m), (omega (arith, e, x, y, z, l, m), omega (arith, e, x, y, z, l, m)))))

  pub digit_of_or : (bit_or a b / d ≡ bit_or a b / d) × ((bit_or a b / d / 2 ≤ a / d / 2 + b / d / 2) × ((a / d % 2 ≤ bit_or a b / d % 2)
      × ((b / d % 2 ≤ bit_or a b / d % 2) × (bit_or a b / d % 2 ≤ a / d % 2 + b / d % 2))))
  digit_of_or =
      let e = bit_at_or a b place in
      let x = digit a in
      let y = digit b in
      let z = digit (bit_or a b) in
      let l = bit_at-lt a place in
      let m = bit_at-lt b place in
      let o = or_shr a b (place + 1) in
      let q = or_add_and (a / 2 ^ (place + 1)) (b / 2 ^ (place + 1)) in
      (refl, (omega (arith, over a, over b, over (bit_or a b), o, q), (omega (arith, e, x, y, z, l, m), (omega (arith, e, x, y, z, l, m), omega (arith, e, x, y, z, l, m)))))

  pub digit_of_xor : (bit_xor a b / d ≡ bit_xor a b / d) × ((bit_xor a b / d / 2 ≤ a / d / 2 + b / d / 2)
      × ((bit_xor a b / d % 2 ≤ a / d % 2 + b / d % 2)
      × ((a / d % 2 ≤ b / d % 2 + bit_xor a b / d % 2) × ((b / d % 2 ≤ a / d % 2 + bit_xor a b / d % 2)
      × (a / d % 2 + b / d % 2 + bit_xor a b / d % 2 ≤ 2)))))
  digit_of_xor =
      let e = bit_at_xor a b place in
      let x = digit a in
      let y = digit b in
      let z = digit (bit_xor a b) in
      let l = bit_at-lt a place in
      let m = bit_at-lt b place in
      let o = xor_shr a b (place + 1) in
      let q = xor_add_and (a / 2 ^ (place + 1)) (b / 2 ^ (place + 1)) in
      (refl, (omega (arith, over a, over b, over (bit_xor a b), o, q), (omega (arith, e, x, y, z, l, m), (omega (arith, e, x, y, z, l, m), (omega (arith, e, x, y, z, l, m), omega (arith, e, x, y, z, l, m))))))

complement : (k n i : ℕ) → n < 2 ^ k → i < k → bit_at (2 ^ k - 1 - n) i + bit_at n i ≡ 1
complement zero n i f l = absurd (omega arith)
complement (suc k) n zero f l = omega (arith, bit_at_lowest (2 ^ suc k - 1 - n), bit_at_lowest n, next k)
complement (suc k) n (suc i) f l =
    let half : (2 ^ suc k - 1 - n) / 2 ≡ 2 ^ k - 1 - n / 2 = omega (arith, next k) in
    omega (arith, bit_at-suc (2 ^ suc k - 1 - n) i, ap (λ (x : ℕ). bit_at x i) half, bit_at-suc n i, complement k (n / 2) i (omega (arith, next k)) (omega arith))

lower : (g h : ℕ) → 2 ^ g < 2 ^ h → g < h
lower g h l = elim (cases_lt g h) [
  | inl i ↦ i
  | inr i ↦ let m : 2 ^ h ≤ 2 ^ g = pow_mono (omega arith) in absurd (omega (arith, m))
]

-- the complement of a number: `t` has only ones, as many as the type has bits
pub digit_of_not : (t n d : ℕ) → bit_and (t + 1) t ≡ 0 → d ≤ t → 0 < d → bit_and d (d - 1) ≡ 0 → ((t - n) / d ≡ (t - n) / d)
    × (((t - n) / d % 2 + n / d % 2 ≤ 1) × (1 ≤ (t - n) / d % 2 + n / d % 2 + n / (t + 1)))
digit_of_not t n d p l c q =
    let s : t + 1 - 1 ≡ t = omega arith in
    let h = power (t + 1) (omega arith) (ap (bit_and (t + 1)) s ∙ p) in
    let g = power d c q in
    let e : t ≡ 2 ^ h.0 - 1 = omega (arith, h.1) in
    let x : (t - n) / d % 2 ≡ bit_at (2 ^ h.0 - 1 - n) g.0 = ap₂ (λ (i j : ℕ). (i - n) / j % 2) e g.1 in
    let y : n / d % 2 ≡ bit_at n g.0 = ap (λ (i : ℕ). n / i % 2) g.1 in
    elim (cases_lt n (t + 1)) [
      | inl f ↦
          let z = complement h.0 n g.0 (omega (arith, h.1)) (lower g.0 h.0 (omega (arith, h.1, g.1))) in
          (refl, (omega (arith, x, y, z), omega (arith, x, y, z)))
      | inr f ↦
          let z : t - n ≡ 0 = omega arith in
          let w : 1 ≤ n / (t + 1) = le-div 1 n (t + 1) (omega arith) (omega arith) in
          let r : (t - n) / d % 2 ≡ 0 = ap (λ (i : ℕ). i / d % 2) z ∙ ap (λ (i : ℕ). i % 2) (zero-div d) in
          (refl, (omega (arith, r), omega (arith, w)))
    ]

-- one bit under a mask; `suc m` fits a mask that is written out
pub under_one : (n m : ℕ) → bit_and (suc m) m ≡ 0 → bit_and n (suc m) ≡ n / suc m % 2 * suc m
under_one n m p =
    let s : suc m - 1 ≡ m = omega arith in
    let h = power (suc m) (omega arith) (ap (bit_and (suc m)) s ∙ p) in
    ap (bit_and n) h.1 ∙ and_pow n h.0 ∙ sym (ap (λ (i : ℕ). n / i % 2 * i) h.1)

-- sums and differences of a `UInt`, as those of a primitive
module _ (B : ℕ) (x y : ℤ) (h : 1 ≤ B) (f : InRange false B x) (g : InRange false B y) where
  pub sum-remainder : wrapped_sum false B x y ≡ pos ((unsigned_abs x + unsigned_abs y) % 2 ^ B)
  sum-remainder =
      let n = unsigned_abs x + unsigned_abs y in
      let e : x +ℤ y ≡ pos n = omega (arith, ints, pos-unsigned_abs x f.low, pos-unsigned_abs y g.low) in
      sum-is false B x y ∙ ap (wrap false B) e ∙ wrap-pos B n h

  pub difference-remainder : wrapped_difference false B x y ≡ pos ((unsigned_abs x + (2 ^ B - unsigned_abs y)) % 2 ^ B)
  difference-remainder =
      let n = unsigned_abs x + (2 ^ B - unsigned_abs y) in
      let p = pos-unsigned_abs x f.low in
      let q = pos-unsigned_abs y g.low in
      let l : unsigned_abs y ≤ 2 ^ B = omega (arith, ints, q, g.high) in
      let c : Congruent B (pos n) (x -ℤ y) = Congruent-from_apart B (pos n) (x -ℤ y) (0, 1, omega (arith, ints, p, q, l)) in
      difference-is false B x y ∙ sym (wrap-same false B (pos n) (x -ℤ y) c) ∙ wrap-pos B n h

-- carry, overflow and borrow, and a half carry
pub ruleset one_bits = (under_one, digit_of_and, digit_of_or, digit_of_xor, digit_of_not, sum-remainder, difference-remainder)
