-- The runs of zeros and ones at the ends of `&`, `|` and `^` of two numbers and of a shifted number, and both ends
-- of one number with its count. Callers name the set `runs_of_two`.
use Rattle.std.specs.Bool.{beq}
use Rattle.std.specs.Int.{int_shr}
use Rattle.std.specs.List.{count_by, prefix_len, suffix_len}
use Rattle.std.specs.Prelude.{Bool, List, [], drop, false, length, negsuc, not, pos, replicate, reverse, suc, take, true, zero, ℕ, ℤ, ◌&&◌, ◌*ℤ◌, ◌*◌, ◌++◌, ◌+◌, ◌-◌, ◌/◌, ◌<ℤ◌, ◌<◌, ◌^◌, ◌||◌, ◌∷◌, ◌≡◌, ◌≤ℤ◌, ◌≤◌, ◌⊎◌}
use Rattle.std.proofs.Common.{ap, ap₂, arith, inl, inr, min, pow-suc, refl, subst, sym, ◌∙◌}
use Rattle.std.proofs.Math.Nat.{div-eq_of_lt-le, mul-le-mul_left, mul-le-mul_right}
use Rattle.std.proofs.lemmas.Int.{ints}
use Rattle.std.proofs.lemmas.List.{length-reverse}
use Rattle.std.proofs.lemmas.Nat.{pow_pos}
use Rattle.arbitrary_base.specs.BitList.{bits, bits_and, bits_or, bits_xor, fill, num, shl, val}
use Rattle.arbitrary_base.specs.Operation.{bitwise_and, bitwise_not, bitwise_or, bitwise_xor, reversed, shifted_left, shifted_right}
use Rattle.arbitrary_base.specs.Range.{InRange}
use Rattle.arbitrary_base.proofs.bit_lists.Count.{popcount-cons}
use Rattle.arbitrary_base.proofs.bit_lists.Movement.{reverse-cons}
use Rattle.arbitrary_base.proofs.bit_lists.Pointwise.{reverse-pointwise}
use Rattle.arbitrary_base.proofs.bit_lists.UnsignedNumber.{bits-num_of, digit, length-bits, same_length}
use Rattle.arbitrary_base.proofs.modular.Congruence.{pow_split}
use Rattle.arbitrary_base.proofs.operations.Bitwise.{not-and_parts, not-or_parts}
use Rattle.arbitrary_base.proofs.operations.Definition.{bits-and, bits-left, bits-or, bits-reversed, bits-right, bits-xor, left-is}
use Rattle.arbitrary_base.proofs.operations.RotateAndReverse.{reversed-shifted_left}
use Rattle.arbitrary_base.proofs.operations.Shift.{shifted_right-is_shr}
use Rattle.arbitrary_base.proofs.operations.ShiftAsProduct.{shl-stays}
use Rattle.arbitrary_base.proofs.operations.PopulationAndRuns.{front-of_reversed, front_zeros-of_not, popcount-of_reversed, tail_zeros-of_not}
use Rattle.arbitrary_calls.proofs.counts.RunBesideCount.{front_zeros-beside_ones}
use Rattle.arbitrary_calls.proofs.counts.ZeroRunBounds.{leading-high, leading-low, leading-none}
use Rattle.arbitrary_laws.proofs.rotations.RotationsAndReversals.{reversed-shifted_right}

-- ---- two numbers

front-or : (l m : List Bool) → length l ≡ length m → prefix_len (beq false) (bits_or l m) ≡ min (prefix_len (beq false) l) (prefix_len (beq false) m)
front-or [] [] e = refl
front-or [] (b ∷ m) e = absurd (omega arith)
front-or (a ∷ l) [] e = absurd (omega arith)
front-or (true ∷ l) (b ∷ m) e = omega arith
front-or (false ∷ l) (true ∷ m) e = omega arith
front-or (false ∷ l) (false ∷ m) e = omega (arith, front-or l m (omega arith))

front-and_zeros : (l m : List Bool) → length l ≡ length m
    → (prefix_len (beq false) l ≤ prefix_len (beq false) (bits_and l m)) × (prefix_len (beq false) m ≤ prefix_len (beq false) (bits_and l m))
front-and_zeros [] [] e = (omega arith, omega arith)
front-and_zeros [] (b ∷ m) e = absurd (omega arith)
front-and_zeros (a ∷ l) [] e = absurd (omega arith)
front-and_zeros (true ∷ l) (true ∷ m) e = (omega arith, omega arith)
front-and_zeros (true ∷ l) (false ∷ m) e = let i = front-and_zeros l m (omega arith) in let r = i.1 in (omega arith, omega arith)
front-and_zeros (false ∷ l) (true ∷ m) e = let i = front-and_zeros l m (omega arith) in let r = i.0 in (omega arith, omega arith)
front-and_zeros (false ∷ l) (false ∷ m) e = let i = front-and_zeros l m (omega arith) in let p = i.0 in let q = i.1 in (omega arith, omega arith)

front-xor : (l m : List Bool) → length l ≡ length m → min (prefix_len (beq false) l) (prefix_len (beq false) m) ≤ prefix_len (beq false) (bits_xor l m)
front-xor [] [] e = omega arith
front-xor [] (b ∷ m) e = absurd (omega arith)
front-xor (a ∷ l) [] e = absurd (omega arith)
front-xor (true ∷ l) (b ∷ m) e = omega arith
front-xor (false ∷ l) (true ∷ m) e = omega arith
front-xor (false ∷ l) (false ∷ m) e = omega (arith, front-xor l m (omega arith))

module _ (s : Bool) (B : ℕ) (x y : ℤ) where
  turned : length (reverse (bits B x)) ≡ length (reverse (bits B y))
  turned = length-reverse (bits B x) ∙ same_length B x y ∙ sym (length-reverse (bits B y))

  pub front-of_or : prefix_len (beq false) (bits B (bitwise_or s B x y)) ≡ min (prefix_len (beq false) (bits B x)) (prefix_len (beq false) (bits B y))
  front-of_or = ap (prefix_len (beq false)) (bits-or s B x y) ∙ front-or (bits B x) (bits B y) (same_length B x y)

  pub tail-of_or : suffix_len (beq false) (bits B (bitwise_or s B x y)) ≡ min (suffix_len (beq false) (bits B x)) (suffix_len (beq false) (bits B y))
  tail-of_or =
      ap (suffix_len (beq false)) (bits-or s B x y) ∙ ap (prefix_len (beq false)) (reverse-pointwise (λ a b. a || b) (bits B x) (bits B y) (same_length B x y))
      ∙ front-or (reverse (bits B x)) (reverse (bits B y)) turned

  pub front-of_and : (prefix_len (beq false) (bits B x) ≤ prefix_len (beq false) (bits B (bitwise_and s B x y)))
      × (prefix_len (beq false) (bits B y) ≤ prefix_len (beq false) (bits B (bitwise_and s B x y)))
  front-of_and =
      let e = ap (prefix_len (beq false)) (bits-and s B x y) in
      let i = front-and_zeros (bits B x) (bits B y) (same_length B x y) in
      let p = i.0 in
      let q = i.1 in
      (omega arith, omega arith)

  pub tail-of_and : (suffix_len (beq false) (bits B x) ≤ suffix_len (beq false) (bits B (bitwise_and s B x y)))
      × (suffix_len (beq false) (bits B y) ≤ suffix_len (beq false) (bits B (bitwise_and s B x y)))
  tail-of_and =
      let e : suffix_len (beq false) (bits B (bitwise_and s B x y)) ≡ prefix_len (beq false) (bits_and (reverse (bits B x)) (reverse (bits B y))) =
      ap (suffix_len (beq false)) (bits-and s B x y) ∙ ap (prefix_len (beq false)) (reverse-pointwise (λ a b. a && b) (bits B x) (bits B y) (same_length B x y)) in
      let i = front-and_zeros (reverse (bits B x)) (reverse (bits B y)) turned in
      let p = i.0 in
      let q = i.1 in
      (omega arith, omega arith)

  pub front-of_xor : min (prefix_len (beq false) (bits B x)) (prefix_len (beq false) (bits B y)) ≤ prefix_len (beq false) (bits B (bitwise_xor s B x y))
  front-of_xor =
      let e = ap (prefix_len (beq false)) (bits-xor s B x y) in
      omega (arith, front-xor (bits B x) (bits B y) (same_length B x y))

  pub tail-of_xor : min (suffix_len (beq false) (bits B x)) (suffix_len (beq false) (bits B y)) ≤ suffix_len (beq false) (bits B (bitwise_xor s B x y))
  tail-of_xor =
      let e : suffix_len (beq false) (bits B (bitwise_xor s B x y)) ≡ prefix_len (beq false) (bits_xor (reverse (bits B x)) (reverse (bits B y))) =
      ap (suffix_len (beq false)) (bits-xor s B x y) ∙ ap (prefix_len (beq false)) (reverse-pointwise (λ a b. not (beq a b)) (bits B x) (bits B y) (same_length B x y)) in
      omega (arith, front-xor (reverse (bits B x)) (reverse (bits B y)) turned)

-- a run of ones is one of zeros of the complement
module _ (s : Bool) (B : ℕ) (x y : ℤ) where
  pub front_ones-of_and : prefix_len (beq true) (bits B (bitwise_and s B x y)) ≡ min (prefix_len (beq true) (bits B x)) (prefix_len (beq true) (bits B y))
  front_ones-of_and =
      sym (front_zeros-of_not s B (bitwise_and s B x y)) ∙ ap (λ (z : ℤ). prefix_len (beq false) (bits B z)) (not-and_parts s B x y)
      ∙ front-of_or s B (bitwise_not s B x) (bitwise_not s B y) ∙ ap₂ min (front_zeros-of_not s B x) (front_zeros-of_not s B y)

  pub tail_ones-of_and : suffix_len (beq true) (bits B (bitwise_and s B x y)) ≡ min (suffix_len (beq true) (bits B x)) (suffix_len (beq true) (bits B y))
  tail_ones-of_and =
      sym (tail_zeros-of_not s B (bitwise_and s B x y)) ∙ ap (λ (z : ℤ). suffix_len (beq false) (bits B z)) (not-and_parts s B x y)
      ∙ tail-of_or s B (bitwise_not s B x) (bitwise_not s B y) ∙ ap₂ min (tail_zeros-of_not s B x) (tail_zeros-of_not s B y)

  pub front_ones-of_or : (prefix_len (beq true) (bits B x) ≤ prefix_len (beq true) (bits B (bitwise_or s B x y)))
      × (prefix_len (beq true) (bits B y) ≤ prefix_len (beq true) (bits B (bitwise_or s B x y)))
  front_ones-of_or =
      let e = ap (λ (z : ℤ). prefix_len (beq false) (bits B z)) (not-or_parts s B x y) in
      let i = front-of_and s B (bitwise_not s B x) (bitwise_not s B y) in
      let p = i.0 in
      let q = i.1 in
      let a = front_zeros-of_not s B x in
      let b = front_zeros-of_not s B y in
      let c = front_zeros-of_not s B (bitwise_or s B x y) in
      (omega arith, omega arith)

  pub tail_ones-of_or : (suffix_len (beq true) (bits B x) ≤ suffix_len (beq true) (bits B (bitwise_or s B x y)))
      × (suffix_len (beq true) (bits B y) ≤ suffix_len (beq true) (bits B (bitwise_or s B x y)))
  tail_ones-of_or =
      let e = ap (λ (z : ℤ). suffix_len (beq false) (bits B z)) (not-or_parts s B x y) in
      let i = tail-of_and s B (bitwise_not s B x) (bitwise_not s B y) in
      let p = i.0 in
      let q = i.1 in
      let a = tail_zeros-of_not s B x in
      let b = tail_zeros-of_not s B y in
      let c = tail_zeros-of_not s B (bitwise_or s B x y) in
      (omega arith, omega arith)

-- ---- shifts

front-after : (k : ℕ) (l : List Bool) → prefix_len (beq false) (replicate k false ++ l) ≡ k + prefix_len (beq false) l
front-after zero l = (let e : prefix_len (beq false) l ≡ 0 + prefix_len (beq false) l = omega arith in e)
front-after (suc k) l = omega (arith, front-after k l)

front-take : (k : ℕ) (l : List Bool) → k ≤ length l → prefix_len (beq false) (take k l) ≡ min k (prefix_len (beq false) l)
front-take zero l h = omega arith
front-take (suc k) [] h = absurd (omega arith)
front-take (suc k) (true ∷ l) h = omega arith
front-take (suc k) (false ∷ l) h = omega (arith, front-take k l (omega arith))

pub front-of_left : (s : Bool) (B k : ℕ) (x : ℤ) → k ≤ B
    → prefix_len (beq false) (bits B (shifted_left s B x k)) ≡ min B (k + prefix_len (beq false) (bits B x))
front-of_left s B k x h =
    let n = length-bits B x in
    let e = ap (prefix_len (beq false)) (bits-left s B x k h) in
    omega (arith, front-after k (take (length (bits B x) - k) (bits B x)), front-take (length (bits B x) - k) (bits B x) (omega arith))

pub tail-of_right : (B k : ℕ) (x : ℤ) → k ≤ B
    → suffix_len (beq false) (bits B (shifted_right false B x k)) ≡ min B (k + suffix_len (beq false) (bits B x))
tail-of_right B k x h =
    let e = ap (λ (z : ℤ). prefix_len (beq false) (bits B z)) (reversed-shifted_right B x k h) in
    omega (arith, front-of_reversed false false B (shifted_right false B x k), front-of_reversed false false B x, front-of_left false B k (reversed false B x) h)

-- the other way, as long as no one is shifted out
front-drop : (k : ℕ) (l m : List Bool) → k ≤ prefix_len (beq false) l → prefix_len (beq false) l < length l
    → prefix_len (beq false) (drop k l ++ m) + k ≡ prefix_len (beq false) l
front-drop zero l m h g = front-shorter l g
  where
    front-shorter : (l : List Bool) → prefix_len (beq false) l < length l → prefix_len (beq false) (l ++ m) + 0 ≡ prefix_len (beq false) l
    front-shorter [] g = absurd (omega arith)
    front-shorter (true ∷ l) g = omega arith
    front-shorter (false ∷ l) g = omega (arith, front-shorter l (omega arith))
front-drop (suc k) [] m h g = absurd (omega arith)
front-drop (suc k) (true ∷ l) m h g = absurd (omega arith)
front-drop (suc k) (false ∷ l) m h g = omega (arith, front-drop k l m (omega arith) (omega arith))

pub front-of_right : (s : Bool) (B k : ℕ) (x : ℤ) → k ≤ prefix_len (beq false) (bits B x) → prefix_len (beq false) (bits B x) < B
    → prefix_len (beq false) (bits B (shifted_right s B x k)) + k ≡ prefix_len (beq false) (bits B x)
front-of_right s B k x h g =
    let n = length-bits B x in
    let e = ap (prefix_len (beq false)) (bits-right s B x k (omega arith)) in
    omega (arith, front-drop k (bits B x) (replicate k (fill s (bits B x))) h (omega arith))

pub tail-of_left : (B k : ℕ) (x : ℤ) → k ≤ suffix_len (beq false) (bits B x) → suffix_len (beq false) (bits B x) < B
    → suffix_len (beq false) (bits B (shifted_left false B x k)) + k ≡ suffix_len (beq false) (bits B x)
tail-of_left B k x h g =
    let r = front-of_reversed false false B x in
    let e = ap (λ (z : ℤ). prefix_len (beq false) (bits B z)) (reversed-shifted_left B x k (omega arith)) in
    omega (arith, front-of_reversed false false B (shifted_left false B x k), front-of_right false B k (reversed false B x) (omega arith) (omega arith))

-- ---- both ends of one number

ones-turned : (l : List Bool) → count_by (λ b. b) (reverse l) ≡ count_by (λ b. b) l
ones-turned l =
    let B = length l in
    let e : bits B (pos (num l)) ≡ l = bits-num_of B l refl in
    ap (count_by (λ b. b)) (ap reverse (sym e) ∙ sym (bits-reversed false B (pos (num l)))) ∙ popcount-of_reversed false B (pos (num l)) ∙ ap (count_by (λ b. b)) e

zeros-beside : (l : List Bool) → prefix_len (beq false) l + count_by (λ b. b) l ≤ length l
zeros-beside l =
    subst (λ (m : List Bool). prefix_len (beq false) m + count_by (λ b. b) m ≤ length l) (bits-num_of (length l) l refl) (front_zeros-beside_ones (length l) (pos (num l)))

none : (l : List Bool) → count_by (λ b. b) l ≡ 0 → prefix_len (beq false) l ≡ length l
none [] e = refl
none (true ∷ l) e = absurd (omega (arith, popcount-cons true l))
none (false ∷ l) e = omega (arith, none l (omega (arith, popcount-cons false l)))

one-more : (l : List Bool) (b : Bool) → ((count_by (λ b. b) l ≡ 0) × (prefix_len (beq false) (l ++ b ∷ []) ≡ length l + digit (not b)))
    ⊎ ((1 ≤ count_by (λ b. b) l) × (prefix_len (beq false) (l ++ b ∷ []) ≡ prefix_len (beq false) l))
one-more [] true = inl (refl, refl)
one-more [] false = inl (refl, omega arith)
one-more (true ∷ l) b = inr (omega (arith, popcount-cons true l), refl)
one-more (false ∷ l) b = elim (one-more l b) [
  | inl n ↦ inl (omega (arith, n.0, popcount-cons false l), omega (arith, n.1))
  | inr n ↦ inr (omega (arith, n.0, popcount-cons false l), omega (arith, n.1))
]

-- the ones are between the two runs of zeros, and a single one fills what is left
abbrev pub Between : ℕ → ℕ → ℕ → ℕ → Type 0
Between n front tail ones = (front + tail + ones ≤ n) × (n + n ≤ front + tail + 1 + n * ones)

between : (l : List Bool) → (prefix_len (beq false) l ≡ length l)
    ⊎ ((1 ≤ count_by (λ b. b) l) × Between (length l) (prefix_len (beq false) l) (suffix_len (beq false) l) (count_by (λ b. b) l))
between [] = inl refl
between (true ∷ l) =
    let c = popcount-cons true l in
    let t : suffix_len (beq false) (true ∷ l) ≡ prefix_len (beq false) (reverse l ++ true ∷ []) = ap (prefix_len (beq false)) (reverse-cons true l) in
    let r = ones-turned l in
    let n = length-reverse l in
    elim (one-more (reverse l) true) [
      | inl m ↦
          let p = times (suc (length l)) 1 (count_by (λ b. b) (true ∷ l)) (omega arith) in
          inr (omega arith, (omega (arith, m.0, m.1), omega (arith, m.0, m.1)))
      | inr m ↦
          let z = zeros-beside (reverse l) in
          let p = times (suc (length l)) 2 (count_by (λ b. b) (true ∷ l)) (omega (arith, m.0)) in
          inr (omega arith, (omega (arith, m.0, m.1), omega (arith, m.0, m.1)))
    ]
  where
    times : (n a b : ℕ) → a ≤ b → n * a ≤ n * b
    times n a b h = mul-le-mul_left n h
between (false ∷ l) =
    let c = popcount-cons false l in
    let t : suffix_len (beq false) (false ∷ l) ≡ prefix_len (beq false) (reverse l ++ false ∷ []) = ap (prefix_len (beq false)) (reverse-cons false l) in
    let r = ones-turned l in
    let n = length-reverse l in
    elim (one-more (reverse l) false) [
      | inl m ↦ inl (none (false ∷ l) (omega (arith, m.0)))
      | inr m ↦ elim (between l) [
        | inl e ↦ let z = zeros-beside l in absurd (omega (arith, m.0))
        | inr w ↦
            let p = more (length l) (count_by (λ b. b) l) in
            let q : suc (length l) * count_by (λ b. b) (false ∷ l) ≡ suc (length l) * count_by (λ b. b) l = ap (λ (i : ℕ). suc (length l) * i) (omega arith) in
            inr (omega (arith, w.0), (omega (arith, m.1, w.1.0), omega (arith, m.0, m.1, w.1.1)))
      ]
    ]
  where
    more : (n d : ℕ) → n * d + d ≡ suc n * d
    more n d = grind arith

-- As lines that need no cases: the quotient is 1 of the number 0, and else 0.
pub ends-between : (B : ℕ) (x : ℤ)
    → (prefix_len (beq false) (bits B x) + suffix_len (beq false) (bits B x) + count_by (λ b. b) (bits B x) ≤ B + prefix_len (beq false) (bits B x) / B * B)
    × (B + B ≤ prefix_len (beq false) (bits B x) + suffix_len (beq false) (bits B x) + 1 + B * count_by (λ b. b) (bits B x))
ends-between zero x = let n = length-bits 0 x in none-long (bits 0 x) n
  where
    none-long : (l : List Bool) → length l ≡ 0 → (prefix_len (beq false) l + suffix_len (beq false) l + count_by (λ b. b) l ≤ 0 + prefix_len (beq false) l / 0 * 0)
        × (0 + 0 ≤ prefix_len (beq false) l + suffix_len (beq false) l + 1 + 0 * count_by (λ b. b) l)
    none-long [] e = (omega arith, omega arith)
    none-long (b ∷ l) e = absurd (omega arith)
ends-between (suc n) x =
    let B = suc n in
    let k = length-bits B x in
    let z = zeros-beside (bits B x) in
    let y = zeros-beside (reverse (bits B x)) in
    let r = ones-turned (bits B x) in
    let m = length-reverse (bits B x) in
    let o : B * 0 ≤ B * count_by (λ b. b) (bits B x) = mul-le-mul_left B (omega arith) in
    elim (between (bits B x)) [
      | inl e ↦
          let q : prefix_len (beq false) (bits B x) / B ≡ 1 = div-eq_of_lt-le B (omega (arith, e)) (omega (arith, e)) in
          let p : prefix_len (beq false) (bits B x) / B * B ≡ 1 * B = ap (λ (i : ℕ). i * B) q in
          let w = all-zeros (bits B x) e in
          (omega (arith, e), omega (arith, e, w))
      | inr f ↦
          let w = subst (λ (i : ℕ). Between i (prefix_len (beq false) (bits B x)) (suffix_len (beq false) (bits B x)) (count_by (λ b. b) (bits B x))) k f.1 in
          (omega (arith, w.0), omega (arith, w.1))
    ]
  where
    none-after : (l : List Bool) → prefix_len (beq false) l ≡ length l → count_by (λ b. b) l ≡ 0
    none-after [] e = refl
    none-after (true ∷ l) e = absurd (omega arith)
    none-after (false ∷ l) e = omega (arith, popcount-cons false l, none-after l (omega arith))

    all-zeros : (l : List Bool) → prefix_len (beq false) l ≡ length l → suffix_len (beq false) l ≡ length l
    all-zeros l e = none (reverse l) (ones-turned l ∙ none-after l e) ∙ length-reverse l

-- ---- the highest one, moved to the low end and to the high one

module _ (B k : ℕ) (x : ℤ) (some : 1 ≤ B) (f : InRange false B x) where
  above_zero : suffix_len (beq false) (bits B x) < B → pos 0 <ℤ x
  above_zero h = by-number x f h (leading-none false B x some f)
    where
      by-number : (y : ℤ) → InRange false B y → suffix_len (beq false) (bits B x) < B → (y ≡ pos 0 → suffix_len (beq false) (bits B x) ≡ B) → pos 0 <ℤ y
      by-number (negsuc n) r h e = let l = r.low in absurd (omega (arith, ints))
      by-number (pos zero) r h e = let z = e refl in absurd (omega arith)
      by-number (pos (suc n)) r h e = omega (arith, ints)

  pub highest-alone : k + suffix_len (beq false) (bits B x) + 1 ≡ B → shifted_right false B x k ≡ pos 1
  highest-alone h =
      let p = above_zero (omega arith) in
      let e : 2 ^ (B - 1 - suffix_len (beq false) (bits B x)) ≡ 2 ^ k = ap (λ (i : ℕ). 2 ^ i) (omega arith) in
      let d : 2 ^ (B - suffix_len (beq false) (bits B x)) ≡ 2 * 2 ^ k = ap (λ (i : ℕ). 2 ^ i) (let q : B - suffix_len (beq false) (bits B x) ≡ suc k = omega arith in q) ∙ (let p = pow-suc 2 k in omega arith) in
      let low = leading-low false B x some f p in
      let high = leading-high false B x some f (omega (arith, ints)) in
      shifted_right-is_shr false B x k some (omega arith) f ∙ by-number x f (omega (arith, ints)) (omega (arith, ints))
    where
      by-number : (y : ℤ) → InRange false B y → pos (2 ^ k) ≤ℤ y → y <ℤ pos (2 * 2 ^ k) → int_shr y k ≡ pos 1
      by-number (negsuc n) r l h = let l = r.low in absurd (omega (arith, ints))
      by-number (pos n) r l h = ap pos (div-eq_of_lt-le (2 ^ k) (omega (arith, ints)) (omega (arith, ints)))

  pub highest-moved : k ≡ suffix_len (beq false) (bits B x) → k < B → pos (2 ^ (B - 1)) ≤ℤ shifted_left false B x k
  highest-moved e g =
      let p = above_zero (omega arith) in
      let low = leading-low false B x some f p in
      let high = leading-high false B x some f (omega (arith, ints)) in
      let a : 2 ^ (B - 1 - suffix_len (beq false) (bits B x)) ≡ 2 ^ (B - 1 - k) = ap (λ (i : ℕ). 2 ^ i) (omega arith) in
      let b : 2 ^ (B - suffix_len (beq false) (bits B x)) ≡ 2 ^ (B - k) = ap (λ (i : ℕ). 2 ^ i) (omega arith) in
      by-number x f (omega (arith, ints)) (omega (arith, ints)) (shl-stays false B k x _ some g)
    where
      by-number : (y : ℤ) → InRange false B y → pos (2 ^ (B - 1 - k)) ≤ℤ y → y <ℤ pos (2 ^ (B - k))
          → (InRange false B (y *ℤ pos (2 ^ k)) → shifted_left false B x k ≡ val false (shl (bits B x) k) → shifted_left false B x k ≡ y *ℤ pos (2 ^ k))
          → pos (2 ^ (B - 1)) ≤ℤ shifted_left false B x k
      by-number (negsuc n) r l h m = let l = r.low in absurd (omega (arith, ints))
      by-number (pos n) r l h m =
          let c = pow_split k B (omega arith) in
          let d = pow_split k (B - 1) (omega arith) in
          let u : 2 ^ (B - 1 - k) * 2 ^ k ≤ n * 2 ^ k = mul-le-mul_right (2 ^ k) (omega (arith, ints)) in
          let v : suc n * 2 ^ k ≤ 2 ^ (B - k) * 2 ^ k = mul-le-mul_right (2 ^ k) (omega (arith, ints)) in
          let o = pow_pos k in
          let z : InRange false B (pos n *ℤ pos (2 ^ k)) = record { low = omega (arith, ints); high = omega (arith, ints) } in
          let w = m z (left-is false B x k) in
          omega (arith, ints)

-- two numbers, and a shifted one
pub ruleset runs_of_two = (front-of_or, tail-of_or, front_ones-of_and, tail_ones-of_and, front-of_and, tail-of_and, front_ones-of_or, tail_ones-of_or, front-of_xor, tail-of_xor, front-of_left, tail-of_right, front-of_right, tail-of_left)

-- both ends of one number
pub ruleset both_ends = (ends-between)

-- the highest one, by the zeros above it
pub ruleset highest_one = (highest-alone, highest-moved)
