-- A field at a variable place k, written where a mask has cleared it: `(word & !(3 << k)) | (mode << k)`. It is
-- read back, and other fields do not change. Callers name the set `placed_fields`.
use Rattle.std.specs.Prelude.{◌≡◌, ◌⊎◌, ℕ, ℤ, suc, false, pos, unsigned_abs, ◌+◌, ◌-◌, ◌*◌, ◌/◌, ◌%◌, ◌^◌, ◌≤◌, ◌<◌}
use Rattle.std.specs.Int.Bits.{bit_and, bit_or, or_add_and}
use Rattle.std.proofs.Common.{refl, sym, ap, ap₂, ◌∙◌, arith, inl, inr, mod-eq_of_lt, mod-lt, mul-le-mul_right, pow-add}
use Rattle.std.proofs.lemmas.Bool.{cases_lt}
use Rattle.std.proofs.lemmas.Bool.Decides.{Decides-eqb, Decides-int_eq}
use Rattle.std.proofs.lemmas.Int.{ints}
use Rattle.std.proofs.lemmas.Grind.{and_numeral, bit_length, low_zeros}
use Rattle.std.proofs.lemmas.Nat.{and_le_r, and_mask, and_mod, and_shr, or_comm, or_mod, or_shr, pow_pos, div-mul-add, mod-mul-add}
use Rattle.std.proofs.Math.Nat.{div-eq_of_lt, mul-mod_left, zero-mod}
use Rattle.arbitrary_base.specs.Range.{InRange}
use Rattle.arbitrary_base.specs.Operation.{bitwise_and, bitwise_not, bitwise_or, shifted_left}
use Rattle.arbitrary_base.proofs.integers.Ring.{pos-unsigned_abs}
use Rattle.arbitrary_base.proofs.storages.Primitive.{unsigned-in_range}
use Rattle.arbitrary_base.proofs.bit_lists.StdBitwise.{and-plain, not-unsigned, or-plain}
use Rattle.arbitrary_base.proofs.operations.BitsAndSums.{and-in_range}
use Rattle.arbitrary_base.proofs.operations.Definition.{and-is, left-is, not-is, or-is}
use Rattle.arbitrary_base.proofs.operations.ShiftAsProduct.{shl-plain}

none : (n : ℕ) → bit_and n 0 ≡ 0
none n = let l = and_le_r n 0 in omega arith

alone : (m : ℕ) → bit_or m 0 ≡ m
alone m = let e = or_add_and m 0 in let z = none m in omega arith

-- the field of width l at place i, of `a & b` and of `a | b`
and-field : (a b i l : ℕ) → bit_and a b / 2 ^ i % 2 ^ l ≡ bit_and (a / 2 ^ i % 2 ^ l) (b / 2 ^ i % 2 ^ l)
and-field a b i l = ap (λ (n : ℕ). n % 2 ^ l) (and_shr a b i) ∙ and_mod (a / 2 ^ i) (b / 2 ^ i) l

or-field : (a b i l : ℕ) → bit_or a b / 2 ^ i % 2 ^ l ≡ bit_or (a / 2 ^ i % 2 ^ l) (b / 2 ^ i % 2 ^ l)
or-field a b i l = ap (λ (n : ℕ). n % 2 ^ l) (or_shr a b i) ∙ or_mod (a / 2 ^ i) (b / 2 ^ i) l

lower : (a c : ℕ) → 0 < a → a * c ≡ (a - 1) * c + c
lower a c h = let e : a ≡ (a - 1) + 1 = omega arith in let d : ((a - 1) + 1) * c ≡ (a - 1) * c + c = grind arith in ap (λ (n : ℕ). n * c) e ∙ d

-- one below a multiple has ones alone there
before : (m l i : ℕ) → 0 < m → (m * 2 ^ l * 2 ^ i - 1) / 2 ^ i % 2 ^ l ≡ 2 ^ l - 1
before m l i h =
    let p = pow_pos l in
    let q = pow_pos i in
    let s : m ≡ suc (m - 1) = omega arith in
    let g : m * 2 ^ l * 2 ^ i - 1 ≡ (m - 1) * 2 ^ l * 2 ^ i + (2 ^ l - 1) * 2 ^ i + (2 ^ i - 1) = apart (m - 1) m (2 ^ l) (2 ^ i) s p q in
    let e : (m - 1) * 2 ^ l * 2 ^ i + (2 ^ l - 1) * 2 ^ i ≡ ((m - 1) * 2 ^ l + (2 ^ l - 1)) * 2 ^ i = grind arith in
    ap (λ (n : ℕ). n / 2 ^ i % 2 ^ l) (g ∙ ap (λ (n : ℕ). n + (2 ^ i - 1)) e)
    ∙ ap (λ (n : ℕ). n % 2 ^ l) (div-mul-add ((m - 1) * 2 ^ l + (2 ^ l - 1)) (2 ^ i) (2 ^ i - 1) (omega arith))
    ∙ mod-mul-add (m - 1) (2 ^ l) (2 ^ l - 1) (omega arith)
  where
    apart : (a m b c : ℕ) → m ≡ suc a → 0 < b → 0 < c → m * b * c - 1 ≡ a * b * c + (b - 1) * c + (c - 1)
    apart a m b c s p q =
        let d : suc a * b * c ≡ a * b * c + b * c = grind arith in
        let e : m * b * c ≡ suc a * b * c = ap (λ (n : ℕ). n * b * c) s in
        omega (arith, lower b c p, d, e)

-- the parts of a word with a hole of w places from place k on, below place r + w + k
module _ (r w k : ℕ) where
  abbrev holed : ℕ
  holed = 2 ^ (r + w + k) - 1 - (2 ^ w - 1) * 2 ^ k

  whole : 2 ^ (r + w + k) ≡ 2 ^ r * 2 ^ w * 2 ^ k
  whole = pow-add 2 (r + w) k ∙ ap (λ (n : ℕ). n * 2 ^ k) (pow-add 2 r w)

  holed-is : holed ≡ (2 ^ r - 1) * 2 ^ w * 2 ^ k + (2 ^ k - 1)
  holed-is = shape (2 ^ r) (2 ^ w) (2 ^ k) _ (pow_pos r) (pow_pos w) (pow_pos k) whole
    where
      shape : (a b c v : ℕ) → 0 < a → 0 < b → 0 < c → v ≡ a * b * c → v - 1 - (b - 1) * c ≡ (a - 1) * b * c + (c - 1)
      shape a b c v f g h e =
          let p = lower a b f in
          let q : a * b * c ≡ ((a - 1) * b + b) * c = ap (λ (n : ℕ). n * c) p in
          let s : ((a - 1) * b + b) * c ≡ (a - 1) * b * c + b * c = grind arith in
          omega (arith, e, q, s, lower b c g)

  -- in the hole
  inside : holed / 2 ^ k % 2 ^ w ≡ 0
  inside =
      let p = pow_pos k in
      ap (λ (n : ℕ). n / 2 ^ k % 2 ^ w) holed-is ∙ ap (λ (n : ℕ). n % 2 ^ w) (div-mul-add ((2 ^ r - 1) * 2 ^ w) (2 ^ k) (2 ^ k - 1) (omega arith))
      ∙ mul-mod_left (2 ^ r - 1) (2 ^ w)

  -- and on both sides of it
  below : (i l : ℕ) → i + l ≤ k → holed / 2 ^ i % 2 ^ l ≡ 2 ^ l - 1
  below i l h =
      let j = k - i - l in
      let e : k ≡ j + l + i = omega arith in
      let m = ((2 ^ r - 1) * 2 ^ w + 1) * 2 ^ j in
      let s : 2 ^ k ≡ 2 ^ j * 2 ^ l * 2 ^ i = ap (λ (n : ℕ). 2 ^ n) e ∙ pow-add 2 (j + l) i ∙ ap (λ (n : ℕ). n * 2 ^ i) (pow-add 2 j l) in
      let p = pow_pos k in
      let a : holed ≡ ((2 ^ r - 1) * 2 ^ w + 1) * 2 ^ k - 1 = holed-is ∙ one-more ((2 ^ r - 1) * 2 ^ w) (2 ^ k) p in
      let b : ((2 ^ r - 1) * 2 ^ w + 1) * 2 ^ k ≡ m * 2 ^ l * 2 ^ i = ap (λ (n : ℕ). ((2 ^ r - 1) * 2 ^ w + 1) * n) s ∙ grind arith in
      ap (λ (n : ℕ). n / 2 ^ i % 2 ^ l) (a ∙ ap (λ (n : ℕ). n - 1) b) ∙ before m l i (positive ((2 ^ r - 1) * 2 ^ w) (2 ^ j) (pow_pos j))
    where
      one-more : (a c : ℕ) → 0 < c → a * c + (c - 1) ≡ (a + 1) * c - 1
      one-more a c h = let e : (a + 1) * c ≡ a * c + c = grind arith in omega arith

      positive : (a c : ℕ) → 0 < c → 0 < (a + 1) * c
      positive a c h = let e : (a + 1) * c ≡ a * c + c = grind arith in omega arith

  above : (i l : ℕ) → w + k ≤ i → i + l ≤ r + w + k → holed / 2 ^ i % 2 ^ l ≡ 2 ^ l - 1
  above i l h g =
      let j = r + w + k - i - l in
      let e : r + w + k ≡ j + l + i = omega arith in
      let s : 2 ^ (r + w + k) ≡ 2 ^ j * 2 ^ l * 2 ^ i = ap (λ (n : ℕ). 2 ^ n) e ∙ pow-add 2 (j + l) i ∙ ap (λ (n : ℕ). n * 2 ^ i) (pow-add 2 j l) in
      let f : (i - (w + k)) + (w + k) ≡ i = omega arith in
      let t : 2 ^ i ≡ 2 ^ (i - (w + k)) * (2 ^ w * 2 ^ k) = sym (ap (λ (n : ℕ). 2 ^ n) f) ∙ pow-add 2 (i - (w + k)) (w + k) ∙ ap (λ (n : ℕ). 2 ^ (i - (w + k)) * n) (pow-add 2 w k) in
      let low : (2 ^ w - 1) * 2 ^ k < 2 ^ i = hole-below (2 ^ w) (2 ^ k) (2 ^ (i - (w + k))) (2 ^ i) (pow_pos w) (pow_pos k) (pow_pos (i - (w + k))) t in
      let a : 2 ^ j * 2 ^ l * 2 ^ i - 1 ≡ (2 ^ j * 2 ^ l - 1) * 2 ^ i + (2 ^ i - 1) = one-less (2 ^ j * 2 ^ l) (2 ^ i) (pow_pos i) (product (2 ^ j) (2 ^ l) (pow_pos j) (pow_pos l)) in
      let b : holed ≡ (2 ^ j * 2 ^ l - 1) * 2 ^ i + (2 ^ i - 1 - (2 ^ w - 1) * 2 ^ k) = omega (arith, a, s, low) in
      let p = pow_pos i in
      ap (λ (n : ℕ). n / 2 ^ i % 2 ^ l) b ∙ ap (λ (n : ℕ). n % 2 ^ l) (div-mul-add (2 ^ j * 2 ^ l - 1) (2 ^ i) (2 ^ i - 1 - (2 ^ w - 1) * 2 ^ k) (omega arith))
      ∙ last (2 ^ j) (2 ^ l) (pow_pos j) (pow_pos l)
    where
      product : (a b : ℕ) → 0 < a → 0 < b → 0 < a * b
      product a b f g = grind arith

      hole-below : (a b c i : ℕ) → 0 < a → 0 < b → 0 < c → i ≡ c * (a * b) → (a - 1) * b < i
      hole-below a b c i f g h e = omega (arith, e, lower a b f, lower c (a * b) h)

      one-less : (a c : ℕ) → 0 < c → 0 < a → a * c - 1 ≡ (a - 1) * c + (c - 1)
      one-less a c h f = omega (arith, lower a c f)

      last : (a b : ℕ) → 0 < a → 0 < b → (a * b - 1) % b ≡ b - 1
      last a b f g =
          let u : a * b - 1 ≡ (a - 1) * b + (b - 1) = one-less a b g f in
          ap (λ (n : ℕ). n % b) u ∙ mod-mul-add (a - 1) b (b - 1) (omega arith)

small : (y a b c v : ℕ) → y < b → 0 < a → 0 < c → v ≡ a * b * c → y * c < v
small y a b c v h f g e =
    let d : (b - 1 - y) + y + 1 ≡ b = omega arith in
    let u : ((b - 1 - y) + y + 1) * c ≡ (b - 1 - y) * c + y * c + c = grind arith in
    let m : b * c ≡ (b - 1 - y) * c + y * c + c = ap (λ (i : ℕ). i * c) (sym d) ∙ u in
    let j : a ≡ (a - 1) + 1 = omega arith in
    let p : ((a - 1) + 1) * b * c ≡ (a - 1) * b * c + b * c = grind arith in
    let q : a * b * c ≡ (a - 1) * b * c + b * c = ap (λ (i : ℕ). i * b * c) j ∙ p in
    omega (arith, e, m, q)

-- where a field of width l at place i lies with respect to one of width w at place k
apart : (w k i l : ℕ) → ((i + l ≤ k) ⊎ (k + w ≤ i)) ⊎ ((k < i + l) × (i < k + w))
apart w k i l = elim (cases_lt k (i + l)) [
  | inl a ↦ elim (cases_lt i (k + w)) [ inl b ↦ inr (a, b) | inr b ↦ inl (inr b) ]
  | inr a ↦ inl (inl a)
]

-- the field's mask is f, with w ones; t is the greatest number of the type, of B bits, and v one more: so `t - f * 2 ^ k % v` is `!(f << k)`
module _ (B w n t f k v : ℕ) (top : t + 1 ≡ v) (wide : v ≡ 2 ^ B) (ones : f + 1 ≡ 2 ^ w) (place : k + w ≤ B) where
  abbrev r : ℕ
  r = B - (w + k)

  length : B ≡ r + w + k
  length = omega (arith, place)

  fits : (y : ℕ) → y < 2 ^ w → y * 2 ^ k % v ≡ y * 2 ^ k
  fits y h =
      let e : v ≡ 2 ^ r * 2 ^ w * 2 ^ k = wide ∙ ap (λ (i : ℕ). 2 ^ i) length ∙ whole r w k in
      mod-eq_of_lt (small y (2 ^ r) (2 ^ w) (2 ^ k) v h (pow_pos r) (pow_pos k) e)

  rest : t - f * 2 ^ k % v ≡ holed r w k
  rest =
      let m : f ≡ 2 ^ w - 1 = omega (arith, ones) in
      let l : f < 2 ^ w = omega (arith, ones) in
      let e : v ≡ 2 ^ (r + w + k) = wide ∙ ap (λ (i : ℕ). 2 ^ i) length in
      let d : t ≡ 2 ^ (r + w + k) - 1 = omega (arith, top, e) in
      ap₂ (λ (a b : ℕ). a - b) d (fits f l ∙ ap (λ (i : ℕ). i * 2 ^ k) m)

  cleared-at : (i l : ℕ) → bit_and n (t - f * 2 ^ k % v) / 2 ^ i % 2 ^ l ≡ bit_and (n / 2 ^ i % 2 ^ l) (holed r w k / 2 ^ i % 2 ^ l)
  cleared-at i l = and-field n _ i l ∙ ap (λ (m : ℕ). bit_and (n / 2 ^ i % 2 ^ l) (m / 2 ^ i % 2 ^ l)) rest

  under : (i l : ℕ) → bit_and (n / 2 ^ i % 2 ^ l) (2 ^ l - 1) ≡ n / 2 ^ i % 2 ^ l
  under i l = let p = pow_pos l in and_mask (n / 2 ^ i % 2 ^ l) l ∙ mod-eq_of_lt (mod-lt (n / 2 ^ i) p)

  emptied : bit_and n (t - f * 2 ^ k % v) / 2 ^ k % 2 ^ w ≡ 0
  emptied = cleared-at k w ∙ ap (bit_and (n / 2 ^ k % 2 ^ w)) (inside r w k) ∙ none (n / 2 ^ k % 2 ^ w)

  kept : (i l : ℕ) → i + l ≤ B → (i + l ≤ k) ⊎ (k + w ≤ i) → bit_and n (t - f * 2 ^ k % v) / 2 ^ i % 2 ^ l ≡ n / 2 ^ i % 2 ^ l
  kept i l h (inl a) = cleared-at i l ∙ ap (bit_and (n / 2 ^ i % 2 ^ l)) (below r w k i l a) ∙ under i l
  kept i l h (inr a) = cleared-at i l ∙ ap (bit_and (n / 2 ^ i % 2 ^ l)) (above r w k i l (omega (arith, a)) (omega (arith, h, length))) ∙ under i l

  module _ (y : ℕ) (within : y ≤ f) where
    below-mask : y < 2 ^ w
    below-mask = omega (arith, ones, within)

    written-at : (i l : ℕ) → bit_or (bit_and n (t - f * 2 ^ k % v)) (y * 2 ^ k % v) / 2 ^ i % 2 ^ l
        ≡ bit_or (bit_and n (t - f * 2 ^ k % v) / 2 ^ i % 2 ^ l) (y * 2 ^ k / 2 ^ i % 2 ^ l)
    written-at i l = ap (λ (m : ℕ). bit_or (bit_and n (t - f * 2 ^ k % v)) m / 2 ^ i % 2 ^ l) (fits y below-mask) ∙ or-field _ (y * 2 ^ k) i l

    own : y * 2 ^ k / 2 ^ k % 2 ^ w ≡ y
    own =
        let p = pow_pos k in
        let e : y * 2 ^ k ≡ y * 2 ^ k + 0 = omega arith in
        ap (λ (m : ℕ). m / 2 ^ k % 2 ^ w) e ∙ ap (λ (m : ℕ). m % 2 ^ w) (div-mul-add y (2 ^ k) 0 p) ∙ mod-eq_of_lt below-mask

    nothing : (i l : ℕ) → (i + l ≤ k) ⊎ (k + w ≤ i) → y * 2 ^ k / 2 ^ i % 2 ^ l ≡ 0
    nothing i l (inl a) =
        let j = k - i - l in
        let e : k ≡ j + l + i = omega arith in
        let s : 2 ^ k ≡ 2 ^ j * 2 ^ l * 2 ^ i = ap (λ (m : ℕ). 2 ^ m) e ∙ pow-add 2 (j + l) i ∙ ap (λ (m : ℕ). m * 2 ^ i) (pow-add 2 j l) in
        let u : y * (2 ^ j * 2 ^ l * 2 ^ i) ≡ y * 2 ^ j * 2 ^ l * 2 ^ i + 0 = grind arith in
        ap (λ (m : ℕ). m / 2 ^ i % 2 ^ l) (ap (λ (m : ℕ). y * m) s ∙ u)
        ∙ ap (λ (m : ℕ). m % 2 ^ l) (div-mul-add (y * 2 ^ j * 2 ^ l) (2 ^ i) 0 (pow_pos i)) ∙ mul-mod_left (y * 2 ^ j) (2 ^ l)
    nothing i l (inr a) =
        let e : (i - (w + k)) + w + k ≡ i = omega arith in
        let s : 2 ^ i ≡ 2 ^ (i - (w + k)) * 2 ^ w * 2 ^ k = sym (ap (λ (m : ℕ). 2 ^ m) e) ∙ pow-add 2 (i - (w + k) + w) k ∙ ap (λ (m : ℕ). m * 2 ^ k) (pow-add 2 (i - (w + k)) w) in
        let b : y * 2 ^ k < 2 ^ i = small y (2 ^ (i - (w + k))) (2 ^ w) (2 ^ k) (2 ^ i) below-mask (pow_pos (i - (w + k))) (pow_pos k) s in
        ap (λ (m : ℕ). m % 2 ^ l) (div-eq_of_lt b) ∙ zero-mod (2 ^ l)

    written : bit_or (bit_and n (t - f * 2 ^ k % v)) (y * 2 ^ k % v) / 2 ^ k % 2 ^ w ≡ y
    written = written-at k w ∙ ap₂ bit_or emptied own ∙ or_comm 0 y ∙ alone y

    stays : (i l : ℕ) → i + l ≤ B → (i + l ≤ k) ⊎ (k + w ≤ i) → bit_or (bit_and n (t - f * 2 ^ k % v)) (y * 2 ^ k % v) / 2 ^ i % 2 ^ l ≡ n / 2 ^ i % 2 ^ l
    stays i l h a = written-at i l ∙ ap₂ bit_or (kept i l h a) (nothing i l a) ∙ alone (n / 2 ^ i % 2 ^ l)

-- ---- in a primitive, where the mask is `suc f`, a number that is written out

-- the first part of a conclusion says nothing: it shows the search the call
module _ (n t f k v : ℕ) (top : t + 1 ≡ v) (wide : v ≡ 2 ^ low_zeros 128 v) (ones : suc f + 1 ≡ 2 ^ bit_length 128 (suc f))
    (place : k + bit_length 128 (suc f) ≤ low_zeros 128 v) where
  pub field_cleared : (bit_and n (t - suc f * 2 ^ k % v) ≡ bit_and n (t - suc f * 2 ^ k % v)) × (bit_and n (t - suc f * 2 ^ k % v) / 2 ^ k % (suc f + 1) ≡ 0)
  field_cleared =
      (refl, ap (λ (d : ℕ). bit_and n (t - suc f * 2 ^ k % v) / 2 ^ k % d) ones ∙ emptied (low_zeros 128 v) (bit_length 128 (suc f)) n t (suc f) k v top wide ones place)

  pub field_cleared-other : (i d : ℕ) → d ≡ 2 ^ low_zeros 128 d → i + low_zeros 128 d ≤ low_zeros 128 v
      → (bit_and n (t - suc f * 2 ^ k % v) / 2 ^ i % d ≡ bit_and n (t - suc f * 2 ^ k % v) / 2 ^ i % d)
      × ((bit_and n (t - suc f * 2 ^ k % v) / 2 ^ i % d ≡ n / 2 ^ i % d) ⊎ ((k < i + low_zeros 128 d) × (i < k + bit_length 128 (suc f))))
  field_cleared-other i d e h =
      let l = low_zeros 128 d in
      let c = bit_and n (t - suc f * 2 ^ k % v) / 2 ^ i in (
        refl,
        elim (apart (bit_length 128 (suc f)) k i l) [
          | inl a ↦
              inl (ap (λ (j : ℕ). c % j) e ∙ kept (low_zeros 128 v) (bit_length 128 (suc f)) n t (suc f) k v top wide ones place i l h a ∙ ap (λ (j : ℕ). n / 2 ^ i % j) (sym e))
          | inr a ↦ inr a
        ],
      )

  pub field_written : (y : ℕ) → y ≤ suc f → (bit_or (bit_and n (t - suc f * 2 ^ k % v)) (y * 2 ^ k % v) ≡ bit_or (bit_and n (t - suc f * 2 ^ k % v)) (y * 2 ^ k % v))
      × (bit_or (bit_and n (t - suc f * 2 ^ k % v)) (y * 2 ^ k % v) / 2 ^ k % (suc f + 1) ≡ y)
  field_written y g = (
    refl,
    ap (λ (d : ℕ). bit_or (bit_and n (t - suc f * 2 ^ k % v)) (y * 2 ^ k % v) / 2 ^ k % d) ones
        ∙ written (low_zeros 128 v) (bit_length 128 (suc f)) n t (suc f) k v top wide ones place y g,
  )

  pub field_written-other : (y i d : ℕ) → y ≤ suc f → d ≡ 2 ^ low_zeros 128 d → i + low_zeros 128 d ≤ low_zeros 128 v
      → (bit_or (bit_and n (t - suc f * 2 ^ k % v)) (y * 2 ^ k % v) / 2 ^ i % d ≡ bit_or (bit_and n (t - suc f * 2 ^ k % v)) (y * 2 ^ k % v) / 2 ^ i % d)
      × ((bit_or (bit_and n (t - suc f * 2 ^ k % v)) (y * 2 ^ k % v) / 2 ^ i % d ≡ n / 2 ^ i % d)
      ⊎ ((k < i + low_zeros 128 d) × (i < k + bit_length 128 (suc f))))
  field_written-other y i d g e h =
      let l = low_zeros 128 d in
      let c = bit_or (bit_and n (t - suc f * 2 ^ k % v)) (y * 2 ^ k % v) / 2 ^ i in (
        refl,
        elim (apart (bit_length 128 (suc f)) k i l) [
          | inl a ↦
              inl (ap (λ (j : ℕ). c % j) e ∙ stays (low_zeros 128 v) (bit_length 128 (suc f)) n t (suc f) k v top wide ones place y g i l h a ∙ ap (λ (j : ℕ). n / 2 ^ i % j) (sym e))
          | inr a ↦ inr a
        ],
      )

-- ---- the same in a number of these types with no sign, where the mask is a complement

module _ (B f k : ℕ) (x : ℤ) (range : InRange false B x) (ones : suc f + 1 ≡ 2 ^ bit_length 128 (suc f)) (place : k + bit_length 128 (suc f) ≤ B) (inner : k < B) where
  abbrev cleared : ℤ
  cleared = bitwise_and false B x (bitwise_not false B (shifted_left false B (pos (suc f)) k))

  some : 1 ≤ B
  some = omega (arith, inner)

  below-top : (m : ℕ) → m % 2 ^ B < 2 ^ B
  below-top m = mod-lt m (pow_pos B)

  mask-fits : suc f < 2 ^ B
  mask-fits =
      let p = pow_pos (B - bit_length 128 (suc f)) in
      let e : 2 ^ B ≡ 2 ^ (B - bit_length 128 (suc f)) * 2 ^ bit_length 128 (suc f) =
      ap (λ (i : ℕ). 2 ^ i) (let d : B ≡ (B - bit_length 128 (suc f)) + bit_length 128 (suc f) = omega (arith, place) in d)
      ∙ pow-add 2 (B - bit_length 128 (suc f)) (bit_length 128 (suc f)) in
      let l : 1 * 2 ^ bit_length 128 (suc f) ≤ 2 ^ (B - bit_length 128 (suc f)) * 2 ^ bit_length 128 (suc f) = mul-le-mul_right (2 ^ bit_length 128 (suc f)) p in
      omega (arith, e, l, ones)

  mask : shifted_left false B (pos (suc f)) k ≡ pos (suc f * 2 ^ k % 2 ^ B)
  mask = shl-plain false B k (pos (suc f)) _ refl some inner (unsigned-in_range B (suc f) mask-fits) (left-is false B (pos (suc f)) k)

  others : bitwise_not false B (shifted_left false B (pos (suc f)) k) ≡ pos (2 ^ B - 1 - suc f * 2 ^ k % 2 ^ B)
  others =
      let b = below-top (suc f * 2 ^ k) in
      let e = not-unsigned false B (pos (suc f * 2 ^ k % 2 ^ B)) _ refl some (unsigned-in_range B _ b) (not-is false B (pos (suc f * 2 ^ k % 2 ^ B))) in
      ap (bitwise_not false B) mask ∙ e ∙ omega (arith, ints)

  cleared-number : cleared ≡ pos (bit_and (unsigned_abs x) (2 ^ B - 1 - suc f * 2 ^ k % 2 ^ B))
  cleared-number =
      let p = pow_pos B in
      ap (bitwise_and false B x) others
      ∙ and-plain false B x (pos (2 ^ B - 1 - suc f * 2 ^ k % 2 ^ B)) _ some range (unsigned-in_range B _ (omega arith)) (and-is false B x _) range.low (omega (arith, ints))

  module _ (z : ℤ) (own-range : InRange false B z) (within : unsigned_abs z ≤ suc f) where
    abbrev put : ℤ
    put = bitwise_or false B cleared (shifted_left false B z k)

    put-number : put ≡ pos (bit_or (bit_and (unsigned_abs x) (2 ^ B - 1 - suc f * 2 ^ k % 2 ^ B)) (unsigned_abs z * 2 ^ k % 2 ^ B))
    put-number =
        let c = and-in_range false B x (bitwise_not false B (shifted_left false B (pos (suc f)) k)) some in
        let moved = shl-plain false B k z _ refl some inner own-range (left-is false B z k) in
        ap (bitwise_or false B cleared) moved
        ∙ or-plain false B cleared (pos (unsigned_abs z * 2 ^ k % 2 ^ B)) _ some c (unsigned-in_range B _ (below-top (unsigned_abs z * 2 ^ k))) (or-is false B cleared _) c.low (omega (arith, ints))
        ∙ ap (λ (m : ℤ). pos (bit_or (unsigned_abs m) (unsigned_abs z * 2 ^ k % 2 ^ B))) cleared-number

    top : 2 ^ B - 1 + 1 ≡ 2 ^ B
    top = let p = pow_pos B in omega arith

    pub placed-written : (bitwise_or false B (bitwise_and false B x (bitwise_not false B (shifted_left false B (pos (suc f)) k))) (shifted_left false B z k)
        ≡ bitwise_or false B (bitwise_and false B x (bitwise_not false B (shifted_left false B (pos (suc f)) k))) (shifted_left false B z k))
        × (unsigned_abs (bitwise_or false B (bitwise_and false B x (bitwise_not false B (shifted_left false B (pos (suc f)) k))) (shifted_left false B z k)) / 2 ^ k % (suc f + 1)
        ≡ unsigned_abs z)
    placed-written = (
      refl,
      ap (λ (m : ℤ). unsigned_abs m / 2 ^ k % (suc f + 1)) put-number
          ∙ ap (λ (d : ℕ). bit_or (bit_and (unsigned_abs x) (2 ^ B - 1 - suc f * 2 ^ k % 2 ^ B)) (unsigned_abs z * 2 ^ k % 2 ^ B) / 2 ^ k % d) ones
          ∙ written B (bit_length 128 (suc f)) (unsigned_abs x) (2 ^ B - 1) (suc f) k (2 ^ B) top refl ones place (unsigned_abs z) within,
    )

    pub placed-other : (i d : ℕ) → d ≡ 2 ^ low_zeros 128 d → i + low_zeros 128 d ≤ B
        → (unsigned_abs (bitwise_or false B (bitwise_and false B x (bitwise_not false B (shifted_left false B (pos (suc f)) k))) (shifted_left false B z k)) / 2 ^ i % d
        ≡ unsigned_abs (bitwise_or false B (bitwise_and false B x (bitwise_not false B (shifted_left false B (pos (suc f)) k))) (shifted_left false B z k)) / 2 ^ i % d)
        × ((unsigned_abs (bitwise_or false B (bitwise_and false B x (bitwise_not false B (shifted_left false B (pos (suc f)) k))) (shifted_left false B z k)) / 2 ^ i % d
        ≡ unsigned_abs x / 2 ^ i % d)
        ⊎ ((k < i + low_zeros 128 d) × (i < k + bit_length 128 (suc f))))
    placed-other i d e h =
        let l = low_zeros 128 d in
        let n = bit_or (bit_and (unsigned_abs x) (2 ^ B - 1 - suc f * 2 ^ k % 2 ^ B)) (unsigned_abs z * 2 ^ k % 2 ^ B) in (
          refl,
          elim (apart (bit_length 128 (suc f)) k i l) [
            | inl a ↦
                inl (ap (λ (m : ℤ). unsigned_abs m / 2 ^ i % d) put-number ∙ ap (λ (j : ℕ). n / 2 ^ i % j) e
                ∙ stays B (bit_length 128 (suc f)) (unsigned_abs x) (2 ^ B - 1) (suc f) k (2 ^ B) top refl ones place (unsigned_abs z) within i l h a
                ∙ ap (λ (j : ℕ). unsigned_abs x / 2 ^ i % j) (sym e))
            | inr a ↦ inr a
          ],
        )

-- a field at a place that varies, written or cleared, and then read back
pub ruleset placed_fields = (Decides-eqb, Decides-int_eq, pos-unsigned_abs, and_numeral, field_cleared, field_written, placed-written)

-- and a field at another place, which stays
pub ruleset other_fields = (Decides-eqb, Decides-int_eq, and_numeral, ints, field_cleared-other, field_written-other, placed-other)
