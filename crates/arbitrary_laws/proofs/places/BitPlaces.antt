-- The bits of a signed or unsigned number by their places: bits of a result, one bit that is set, cleared or
-- toggled, and bits that are tested by `x & (1 << k)` and by `(x >> k) & 1`. Callers name the set `bit_places`.
use Rattle.std.specs.Prelude.{◌≡◌, ◌≢◌, ◌⊎◌, ℕ, ℤ, zero, suc, Bool, true, false, not, ◌&&◌, ◌||◌, ◌==◌, List, ◌∷◌, ◌++◌, drop, get_or, length, replicate, take, pos, unsigned_abs, ◌≤◌, ◌<◌, ◌-◌, ◌*◌, ◌/◌, ◌%◌, ◌^◌, ◌-ℤ◌}
use Rattle.std.specs.Bool.{beq}
use Rattle.std.specs.Ordering.{int_eq}
use Rattle.std.proofs.Common.{refl, sym, ap, ◌∙◌, arith, inl, inr, pow-suc, length-drop}
use Rattle.std.proofs.lemmas.Int.{ints}
use Rattle.std.proofs.lemmas.Bool.{cases_lt}
use Rattle.std.proofs.lemmas.Bool.Decides.{Decides-int_eq}
use Rattle.std.proofs.lemmas.List.{ext_get_or, get_or_append_left, get_or-drop, get_or-replicate, length-replicate}
use Rattle.std.proofs.Math.Nat.{div-div-eq-div-mul}
use Rattle.std.proofs.Math.Pow.{pow_mono}
use Rattle.arbitrary_base.specs.Range.{InRange}
use Rattle.arbitrary_base.specs.BitList.{bits, bits_and, fill, val}
use Rattle.arbitrary_base.specs.Operation.{bitwise_and, bitwise_not, bitwise_or, bitwise_xor, shifted_left, shifted_right}
use Rattle.arbitrary_base.proofs.bit_lists.UnsignedNumber.{digit, length-bits, same_length}
use Rattle.arbitrary_base.proofs.operations.BitByBit.{bit, bit-and, bit-not, bit-or, bit-xor}
use Rattle.arbitrary_base.proofs.operations.Definition.{and-is, bits-and, bits-left, bits-right, bits-zero, by-bits, left-is, zero-is}
use Rattle.arbitrary_base.proofs.operations.KnownMask.{and-by_one}
use Rattle.arbitrary_laws.proofs.counts.CountBounds.{bits-one_bit}
use Rattle.arbitrary_laws.proofs.written.KnownCount.{digit-of}

lowest : (B : ℕ) (y : ℤ) → 1 ≤ B → unsigned_abs y % 2 ≡ digit (bit B y 0)
unfolding bits bit
lowest zero y h = absurd (omega arith)
lowest (suc B) y h = sym (digit-of (unsigned_abs y % 2) (omega arith))

low-is_bit : (s : Bool) (B k : ℕ) (x : ℤ) → k < B → unsigned_abs (shifted_right s B x k) % 2 ≡ digit (bit B x k)
unfolding bit
low-is_bit s B k x h =
    let n = length-bits B x in
    let some : 0 < length (drop k (bits B x)) = omega (arith, length-drop k (bits B x)) in
    lowest B (shifted_right s B x k) (omega arith)
    ∙ ap (λ (l : List Bool). digit (get_or l 0 false)) (bits-right s B x k (omega arith))
    ∙ ap digit (get_or_append_left (drop k (bits B x)) (replicate k (fill s (bits B x))) false 0 some ∙ get_or-drop k (bits B x) 0 false)
    ∙ ap (λ (i : ℕ). digit (get_or (bits B x) i false)) (omega arith)

-- ---- the bits of `1 << k`

all-zeros : (n m i : ℕ) → get_or (take n (replicate m false)) i false ≡ false
all-zeros zero m i = refl
all-zeros (suc n) zero i = refl
all-zeros (suc n) (suc m) zero = refl
all-zeros (suc n) (suc m) (suc i) = all-zeros n m i

here : (k : ℕ) (r : List Bool) → get_or (replicate k false ++ (true ∷ r)) k false ≡ true
here zero r = refl
here (suc k) r = here k r

elsewhere : (k i n m : ℕ) → i ≢ k → get_or (replicate k false ++ (true ∷ take n (replicate m false))) i false ≡ false
elsewhere zero zero n m d = absurd (d refl)
elsewhere zero (suc i) n m d = all-zeros n m i
elsewhere (suc k) zero n m d = refl
elsewhere (suc k) (suc i) n m d = elsewhere k i n m (λ e. d (ap suc e))

module _ (s : Bool) (B k : ℕ) (place : k < B) where
  pub bit-here : bit B (shifted_left s B (pos 1) k) k ≡ true
  unfolding bit
  bit-here = ap (λ (l : List Bool). get_or l k false) (bits-one_bit s B k place) ∙ here k (take (B - k - 1) (replicate (B - 1) false))

  pub bit-elsewhere : (i : ℕ) → i ≢ k → bit B (shifted_left s B (pos 1) k) i ≡ false
  unfolding bit
  bit-elsewhere i d = ap (λ (l : List Bool). get_or l i false) (bits-one_bit s B k place) ∙ elsewhere k i (B - k - 1) (B - 1) d

  -- `1 << k` is not 0, also where it is the least number of a type with a sign
  pub one_bit-some : shifted_left s B (pos 1) k ≢ pos 0
  unfolding bit
  one_bit-some e =
      let t : true ≡ false = sym bit-here ∙ ap (λ (z : ℤ). get_or (bits B z) k false) e ∙ ap (λ (l : List Bool). get_or l k false) (bits-zero B) ∙ get_or-replicate B k false false place in
      absurd (cc)

-- what is tested of the number shifted right: its lowest bit
pub low-is_remainder : (s : Bool) (B : ℕ) (x : ℤ) → 2 ≤ B → bitwise_and s B x (pos 1) ≡ pos (unsigned_abs x % 2)
low-is_remainder s B x h = and-by_one s B x (pos 1) _ (omega arith) (fits s) refl refl
  where
    fits : (s : Bool) → InRange s B (pos 1)
    fits false = let p = pow_mono h in record { low = omega (arith, ints); high = omega (arith, ints) }
    fits true = let g : 1 ≤ B - 1 = omega arith in let p = pow_mono g in record { low = omega (arith, ints); high = omega (arith, ints) }

-- ---- the bits of a result

pub bit-written : (B k n : ℕ) → k < B → bit B (pos n) k ≡ (n / 2 ^ k % 2 == 1)
unfolding bits bit
bit-written zero k n h = absurd (omega arith)
bit-written (suc B) zero n h = ap (λ (m : ℕ). m % 2 == 1) (let e : n ≡ n / 2 ^ 0 = omega arith in e)
bit-written (suc B) (suc k) n h =
    bit-written B k (n / 2) (omega arith)
    ∙ ap (λ (m : ℕ). m % 2 == 1) (div-div-eq-div-mul n 2 (2 ^ k) ∙ ap (λ (m : ℕ). n / m) (let p = pow-suc 2 k in let e : 2 * 2 ^ k ≡ 2 ^ suc k = omega arith in e))

-- of one bit that is set, cleared or turned over: there, and at another place
module _ (s : Bool) (B k : ℕ) (x : ℤ) (h : k < B) where
  pub bit-set : bit B (bitwise_or s B x (shifted_left s B (pos 1) k)) k ≡ true
  bit-set = bit-or s B k x (shifted_left s B (pos 1) k) ∙ ap (λ (b : Bool). bit B x k || b) (bit-here s B k h) ∙ whole (bit B x k)
    where
      whole : (b : Bool) → (b || true) ≡ true
      whole true = refl
      whole false = refl

  pub bit-cleared : bit B (bitwise_and s B x (bitwise_not s B (shifted_left s B (pos 1) k))) k ≡ false
  bit-cleared =
      bit-and s B k x (bitwise_not s B (shifted_left s B (pos 1) k))
      ∙ ap (λ (b : Bool). bit B x k && b) (bit-not s B k (shifted_left s B (pos 1) k) h ∙ ap not (bit-here s B k h)) ∙ none (bit B x k)
    where
      none : (b : Bool) → (b && false) ≡ false
      none true = refl
      none false = refl

  pub bit-turned : bit B (bitwise_xor s B x (shifted_left s B (pos 1) k)) k ≡ not (bit B x k)
  bit-turned = bit-xor s B k x (shifted_left s B (pos 1) k) ∙ ap (λ (b : Bool). not (beq (bit B x k) b)) (bit-here s B k h) ∙ other (bit B x k)
    where
      other : (b : Bool) → not (beq b true) ≡ not b
      other true = refl
      other false = refl

  module _ (i : ℕ) (g : i < B) (apart : i ≢ k) where
    pub other-set : bit B (bitwise_or s B x (shifted_left s B (pos 1) k)) i ≡ bit B x i
    other-set = bit-or s B i x (shifted_left s B (pos 1) k) ∙ ap (λ (b : Bool). bit B x i || b) (bit-elsewhere s B k h i apart) ∙ same (bit B x i)
      where
        same : (b : Bool) → (b || false) ≡ b
        same true = refl
        same false = refl

    pub other-cleared : bit B (bitwise_and s B x (bitwise_not s B (shifted_left s B (pos 1) k))) i ≡ bit B x i
    other-cleared =
        bit-and s B i x (bitwise_not s B (shifted_left s B (pos 1) k))
        ∙ ap (λ (b : Bool). bit B x i && b) (bit-not s B i (shifted_left s B (pos 1) k) g ∙ ap not (bit-elsewhere s B k h i apart)) ∙ same (bit B x i)
      where
        same : (b : Bool) → (b && true) ≡ b
        same true = refl
        same false = refl

    pub other-turned : bit B (bitwise_xor s B x (shifted_left s B (pos 1) k)) i ≡ bit B x i
    other-turned = bit-xor s B i x (shifted_left s B (pos 1) k) ∙ ap (λ (b : Bool). not (beq (bit B x i) b)) (bit-elsewhere s B k h i apart) ∙ same (bit B x i)
      where
        same : (b : Bool) → not (beq b false) ≡ b
        same true = refl
        same false = refl

-- ---- tests

same-place : (s : Bool) (B k : ℕ) (x : ℤ) → k < B → (i : ℕ) → bit B (bitwise_and s B x (shifted_left s B (pos 1) k)) i ≡ (bit B x k && bit B (shifted_left s B (pos 1) k) i)
same-place s B k x h i = bit-and s B i x (shifted_left s B (pos 1) k) ∙ elim (cases_lt i k) [
  | inl l ↦ elsewhere-none (λ d. absurd (omega (arith, l, d)))
  | inr m ↦ elim (cases_lt k i) [
    | inl l ↦ elsewhere-none (λ d. absurd (omega (arith, l, d)))
    | inr l ↦ (let d : i ≡ k = omega (arith, l, m) in ap (λ (j : ℕ). bit B x j && bit B (shifted_left s B (pos 1) k) i) d)
  ]
]
  where
    none : (c : Bool) → (c && false) ≡ false
    none true = refl
    none false = refl

    elsewhere-none : i ≢ k → (bit B x i && bit B (shifted_left s B (pos 1) k) i) ≡ (bit B x k && bit B (shifted_left s B (pos 1) k) i)
    elsewhere-none d =
        ap (λ (c : Bool). bit B x i && c) (bit-elsewhere s B k h i d) ∙ none (bit B x i)
        ∙ sym (ap (λ (c : Bool). bit B x k && c) (bit-elsewhere s B k h i d) ∙ none (bit B x k))

masked : (s : Bool) (B k : ℕ) (x : ℤ) → k < B → ((bit B x k ≡ true) × (bitwise_and s B x (shifted_left s B (pos 1) k) ≡ shifted_left s B (pos 1) k))
    ⊎ ((bit B x k ≡ false) × (bitwise_and s B x (shifted_left s B (pos 1) k) ≡ pos 0))
unfolding bit
masked s B k x h = by-bit (bit B x k) refl
  where
    one : ℤ
    one = shifted_left s B (pos 1) k

    by-bit : (b : Bool) → b ≡ bit B x k → ((bit B x k ≡ true) × (bitwise_and s B x (shifted_left s B (pos 1) k) ≡ shifted_left s B (pos 1) k))
        ⊎ ((bit B x k ≡ false) × (bitwise_and s B x (shifted_left s B (pos 1) k) ≡ pos 0))
    by-bit true e =
        inl (
          sym e,
          by-bits s (bits_and (bits B x) (bits B (shifted_left s B (pos 1) k))) (bits B (shifted_left s B (pos 1) k)) _ _ (and-is s B x (shifted_left s B (pos 1) k))
              (left-is s B (pos 1) k ∙ ap (val s) (sym (bits-left s B (pos 1) k (omega arith))))
              (sym (bits-and s B x (shifted_left s B (pos 1) k))
              ∙ ext_get_or false (bits B (bitwise_and s B x (shifted_left s B (pos 1) k))) (bits B (shifted_left s B (pos 1) k)) (same_length B _ _)
              (λ i g. same-place s B k x h i ∙ ap (λ (c : Bool). c && get_or (bits B (shifted_left s B (pos 1) k)) i false) (sym e))),
        )
    by-bit false e =
        inr (
          sym e,
          by-bits s (bits_and (bits B x) (bits B (shifted_left s B (pos 1) k))) (replicate B false) _ _ (and-is s B x (shifted_left s B (pos 1) k)) (zero-is s B (omega arith))
              (sym (bits-and s B x (shifted_left s B (pos 1) k))
              ∙ ext_get_or false (bits B (bitwise_and s B x (shifted_left s B (pos 1) k))) (replicate B false) (length-bits B _ ∙ sym (length-replicate B false))
              (λ i g. same-place s B k x h i ∙ ap (λ (c : Bool). c && get_or (bits B (shifted_left s B (pos 1) k)) i false) (sym e)
              ∙ sym (get_or-replicate B i false false (omega (arith, g, length-bits B (bitwise_and s B x (shifted_left s B (pos 1) k))))))),
        )

equal-self : (z : ℤ) → int_eq z z ≡ true
equal-self z = (Decides-int_eq z z).1 refl

unequal : (y z : ℤ) → y ≢ z → int_eq y z ≡ false
unequal y z d = by-test (int_eq y z) refl
  where
    by-test : (b : Bool) → b ≡ int_eq y z → int_eq y z ≡ false
    by-test true e = absurd (d ((Decides-int_eq y z).0 (sym e)))
    by-test false e = sym e

module _ (s : Bool) (B k : ℕ) (x : ℤ) (h : k < B) where
  pub set-by_mask : int_eq (bitwise_and s B x (shifted_left s B (pos 1) k)) (shifted_left s B (pos 1) k) ≡ bit B x k
  set-by_mask = elim (masked s B k x h) [
    | inl e ↦ ap (λ (z : ℤ). int_eq z (shifted_left s B (pos 1) k)) e.1 ∙ equal-self (shifted_left s B (pos 1) k) ∙ sym e.0
    | inr e ↦ ap (λ (z : ℤ). int_eq z (shifted_left s B (pos 1) k)) e.1 ∙ unequal (pos 0) (shifted_left s B (pos 1) k) (λ d. one_bit-some s B k h (sym d)) ∙ sym e.0
  ]

  pub clear-by_mask : int_eq (bitwise_and s B x (shifted_left s B (pos 1) k)) (pos 0) ≡ not (bit B x k)
  clear-by_mask = elim (masked s B k x h) [
    | inl e ↦ ap (λ (z : ℤ). int_eq z (pos 0)) e.1 ∙ unequal (shifted_left s B (pos 1) k) (pos 0) (one_bit-some s B k h) ∙ ap not (sym e.0)
    | inr e ↦ ap (λ (z : ℤ). int_eq z (pos 0)) e.1 ∙ equal-self (pos 0) ∙ ap not (sym e.0)
  ]

  module _ (two : 2 ≤ B) where
    by_shift : bitwise_and s B (shifted_right s B x k) (pos 1) ≡ pos (digit (bit B x k))
    by_shift = low-is_remainder s B (shifted_right s B x k) two ∙ ap pos (low-is_bit s B k x h)

    pub set-by_shift : int_eq (bitwise_and s B (shifted_right s B x k) (pos 1)) (pos 1) ≡ bit B x k
    set-by_shift = ap (λ (z : ℤ). int_eq z (pos 1)) by_shift ∙ tests (bit B x k)
      where
        tests : (b : Bool) → int_eq (pos (digit b)) (pos 1) ≡ b
        tests true = refl
        tests false = refl

    pub clear-by_shift : int_eq (bitwise_and s B (shifted_right s B x k) (pos 1)) (pos 0) ≡ not (bit B x k)
    clear-by_shift = ap (λ (z : ℤ). int_eq z (pos 0)) by_shift ∙ tests (bit B x k)
      where
        tests : (b : Bool) → int_eq (pos (digit b)) (pos 0) ≡ not b
        tests true = refl
        tests false = refl

    -- the bit as a number, turned over
    pub low-of_turned : bitwise_and s B (shifted_right s B (bitwise_xor s B x (shifted_left s B (pos 1) k)) k) (pos 1)
        ≡ pos 1 -ℤ bitwise_and s B (shifted_right s B x k) (pos 1)
    low-of_turned =
        low-is_remainder s B (shifted_right s B (bitwise_xor s B x (shifted_left s B (pos 1) k)) k) two ∙ ap pos (low-is_bit s B k (bitwise_xor s B x (shifted_left s B (pos 1) k)) h)
        ∙ ap (λ (b : Bool). pos (digit b)) (bit-xor s B k x (shifted_left s B (pos 1) k) ∙ ap (λ (b : Bool). not (beq (bit B x k) b)) (bit-here s B k h))
        ∙ other (bit B x k) ∙ ap (λ (z : ℤ). pos 1 -ℤ z) (sym by_shift)
      where
        other : (b : Bool) → pos (digit (not (beq b true))) ≡ pos 1 -ℤ pos (digit b)
        other true = refl
        other false = refl

-- tests of bits by their places
pub ruleset bit_places = (set-by_mask, clear-by_mask, set-by_shift, clear-by_shift, bit-set, bit-cleared, bit-turned, bit-not, other-set, other-cleared, other-turned)
