-- Parts of a word that share no bit: `|` and `^` of them are their sum, in any order and number.
use Rattle.std.specs.Prelude.{◌≡◌, ℕ, suc, ◌+◌, ◌-◌, ◌*◌, ◌/◌, ◌%◌, ◌^◌, ◌<◌, ◌≤◌}
use Rattle.std.specs.Int.Bits.{bit_and, bit_or, bit_xor, xor_add_and}
use lib.Arith.{mod-mul}
use lib.Bits.{and_self, and_shifted}
use Rattle.std.proofs.Common.{refl, sym, ap, ap₂, subst, ◌∙◌, arith, div-add-mod', mod-eq_of_lt, inl, inr}
use Rattle.std.proofs.Math.Nat.{mul-mod_left}
use Rattle.std.proofs.lemmas.Bool.{cases_lt}
use Rattle.std.proofs.lemmas.Nat.{and_assoc, and_comm, and_mod, le-div, le_or_l, le_or_r, or_disjoint, or_mod, pow_pos, shl-shr}
use Rattle.std.proofs.lemmas.Nat.Bits.{bit_at_and, bit_at_or, bit_at-zero, same_from_bits}
use Rattle.std.specs.Int.{bit_at}
use Rattle.arbitrary_laws.proofs.words.LowestOne.{low_bit, low_power, none, power}
use Rattle.arbitrary_laws.proofs.words.WrittenMasks.{up}

-- the bits that two parts of a word share
unfoldable pub shared : ℕ → ℕ → ℕ
shared a b = bit_and a b

-- `n`, which has no bit outside `m`. No search opens it: it only says so
unfoldable pub within : ℕ → ℕ → ℕ
within m n = bit_and n m

shared-is : (a b : ℕ) → shared a b ≡ bit_and a b
unfolding shared
shared-is a b = refl

pub or_apart : (a b : ℕ) → shared a b ≡ 0 → bit_or a b ≡ a + b
or_apart a b e = or_disjoint a b (sym (shared-is a b) ∙ e)

-- `suc m` fits a number that is written out
pub written_or_apart : (m b : ℕ) → shared (suc m) b ≡ 0 → bit_or (suc m) b ≡ suc m + b
written_or_apart m b e = or_apart (suc m) b e

pub xor_apart : (a b : ℕ) → shared a b ≡ 0 → bit_xor a b ≡ a + b
xor_apart a b e = omega (arith, xor_add_and a b, e, shared-is a b)

swapped : (a b : ℕ) → shared a b ≡ 0 → shared b a ≡ 0
swapped a b e = shared-is b a ∙ and_comm b a ∙ sym (shared-is a b) ∙ e

joined : (a b c : ℕ) → bit_and a c ≡ 0 → bit_and b c ≡ 0 → bit_and (bit_or a b) c ≡ 0
joined a b c e f =
    same_from_bits _ _ (λ i. omega (arith, bit_at_and (bit_or a b) c i, bit_at_or a b i, bit_at_and a c i, bit_at_and b c i, ap (λ (n : ℕ). bit_at n i) e, ap (λ (n : ℕ). bit_at n i) f, bit_at-zero i))

pub joined_apart : (a b c : ℕ) → shared a c ≡ 0 → shared b c ≡ 0 → shared (bit_or a b) c ≡ 0
joined_apart a b c e f =
    shared-is (bit_or a b) c ∙ joined a b c (sym (shared-is a c) ∙ e) (sym (shared-is b c) ∙ f)

pub written_joined_apart : (m b c : ℕ) → shared (suc m) c ≡ 0 → shared b c ≡ 0 → shared (bit_or (suc m) b) c ≡ 0
written_joined_apart m b c e f = joined_apart (suc m) b c e f

pub apart_joined : (a b c : ℕ) → shared a b ≡ 0 → shared a c ≡ 0 → shared a (bit_or b c) ≡ 0
apart_joined a b c e f = swapped (bit_or b c) a (joined_apart b c a (swapped a b e) (swapped a c f))

-- ---- the bits that a part may have

is : (m n : ℕ) → within m n ≡ bit_and n m
unfolding within
is m n = refl

pub masked_within : (z l : ℕ) → bit_and z l ≡ within l (bit_and z l)
masked_within z l = sym (is l (bit_and z l) ∙ and_assoc l z l ∙ ap (bit_and z) (and_self l))

module _ (d v : ℕ) (b : 0 < d) (p : bit_and d (d - 1) ≡ 0) (c : 0 < v) (q : bit_and v (v - 1) ≡ 0) where
  shifted : (n m : ℕ) → bit_and n m * d % v ≡ bit_and (n * d % v) (m * d % v)
  shifted n m =
      let f = power d b p in
      let g = power v c q in
      let k = f.0 in
      let w = g.0 in
      let e : bit_and n m * 2 ^ k ≡ bit_and (n * 2 ^ k) (m * 2 ^ k) = sym (up (n * 2 ^ k) m k ∙ ap (λ (i : ℕ). bit_and i m * 2 ^ k) (shl-shr n k)) in
      ap₂ (λ (i j : ℕ). bit_and n m * i % j) f.1 g.1 ∙ ap (λ (i : ℕ). i % 2 ^ w) e ∙ and_mod (n * 2 ^ k) (m * 2 ^ k) w
      ∙ sym (ap₂ (λ (i j : ℕ). bit_and (n * i % j) (m * i % j)) f.1 g.1)

  pub moved_within : (m n : ℕ) → within m n * d % v ≡ within (m * d % v) (within m n * d % v)
  moved_within m n =
      let e : within m n * d % v ≡ bit_and (n * d % v) (m * d % v) = ap (λ (i : ℕ). i * d % v) (is m n) ∙ shifted n m in
      e ∙ masked_within (n * d % v) (m * d % v) ∙ ap (within (m * d % v)) (sym e)

-- ---- what shares no bit with what

module _ (m n : ℕ) where
  pub within_apart : (l k : ℕ) → bit_and m l ≡ 0 → shared (within m n) (within l k) ≡ 0
  within_apart l k e =
      shared-is (within m n) (within l k)
      ∙ ap₂ bit_and (is m n) (is l k) ∙ ap (λ (i : ℕ). bit_and i (bit_and k l)) (and_comm n m) ∙ and_assoc (bit_and k l) m n
      ∙ ap (bit_and m) (sym (and_assoc l n k)) ∙ ap (bit_and m) (and_comm (bit_and n k) l) ∙ sym (and_assoc (bit_and n k) m l)
      ∙ ap (λ (i : ℕ). bit_and i (bit_and n k)) e ∙ and_comm 0 (bit_and n k) ∙ none (bit_and n k)

  pub within_written : (l : ℕ) → bit_and m (suc l) ≡ 0 → shared (within m n) (suc l) ≡ 0
  within_written l e =
      shared-is (within m n) (suc l) ∙ ap (λ (i : ℕ). bit_and i (suc l)) (is m n) ∙ and_assoc (suc l) n m ∙ ap (bit_and n) e ∙ none n

  pub written_within : (l : ℕ) → bit_and m (suc l) ≡ 0 → shared (suc l) (within m n) ≡ 0
  written_within l e = swapped (within m n) (suc l) (within_written l e)

below_lowest : (m b : ℕ) → b < low_bit m → 0 < m → bit_and m b ≡ 0
below_lowest m b f p =
    let e = low_power m p in
    ap (λ (i : ℕ). bit_and i b) e.number ∙ and_shifted e.times e.place b (subst (λ (i : ℕ). b < i) e.is f)

module _ (m b : ℕ) (f : b < low_bit (suc m)) where
  pub written_above : shared (suc m) b ≡ 0
  written_above = shared-is (suc m) b ∙ below_lowest (suc m) b f (omega arith)

  pub below_written : shared b (suc m) ≡ 0
  below_written = swapped (suc m) b written_above

  pub within_above : (n : ℕ) → shared (within (suc m) n) b ≡ 0
  within_above n =
      shared-is (within (suc m) n) b ∙ ap (λ (i : ℕ). bit_and i b) (is (suc m) n) ∙ and_assoc b n (suc m)
      ∙ ap (bit_and n) (below_lowest (suc m) b f (omega arith)) ∙ none n

  pub below_within : (n : ℕ) → shared b (within (suc m) n) ≡ 0
  below_within n = swapped (within (suc m) n) b (within_above n)

whole : (v d : ℕ) → 0 < v → v % d ≡ 0 → 1 * d ≤ v
whole v d b q = elim (cases_lt v d) [
  | inl l ↦ absurd (omega (arith, mod-eq_of_lt l, q, b))
  | inr l ↦ omega arith
]

module _ (y d v : ℕ) (c : 0 < d) (p : bit_and d (d - 1) ≡ 0) (b : 0 < v) (q : v % d ≡ 0) where
  moved_is : (z : ℕ) × (k : ℕ) × (d ≡ 2 ^ k) × (y * d % v ≡ z * 2 ^ k) × (z ≤ y)
  moved_is =
      let h = power d c p in
      let k = h.0 in
      let w = v / d in
      let m : w * d ≡ v = omega (arith, q, div-add-mod' v d) in
      let s : w * 2 ^ k ≡ v = ap (λ (i : ℕ). w * i) (sym h.1) ∙ m in
      let t : 1 * d ≤ v = whole v d b q in
      let a : 0 < w = le-div 1 v d c t in
      let e : y * 2 ^ k % (w * 2 ^ k) ≡ y * 2 ^ k / 2 ^ k % w * 2 ^ k + y * 2 ^ k % 2 ^ k = mod-mul (y * 2 ^ k) a (pow_pos k) in
      let z : y * 2 ^ k % 2 ^ k ≡ 0 = mul-mod_left y (2 ^ k) in
      let l : y % w ≤ y = omega arith in
      (y % w, k, h.1, ap₂ (λ (i j : ℕ). y * i % j) h.1 (sym s) ∙ e ∙ ap₂ (λ (i j : ℕ). i % w * 2 ^ k + j) (shl-shr y k) z ∙ omega arith, l)

  pub moved_above : (x : ℕ) → x < d → shared (y * d % v) x ≡ 0
  moved_above x f =
      let h = moved_is in
      shared-is (y * d % v) x ∙ ap (λ (i : ℕ). bit_and i x) h.3 ∙ and_shifted h.0 h.1 x (subst (λ (i : ℕ). x < i) h.2 f)

  pub below_moved : (x : ℕ) → x < d → shared x (y * d % v) ≡ 0
  below_moved x f = swapped (y * d % v) x (moved_above x f)

  -- a moved number in a hole of a mask
  module _ (m : ℕ) (f : y < low_bit (bit_or (suc m / d) v)) where
    around : bit_and (suc m) (y * d % v) ≡ 0
    around =
        let h = moved_is in
        let k = h.1 in
        let a = suc m / 2 ^ k in
        let n = bit_or a v in
        let l = low_power n (omega (arith, le_or_r a v, b)) in
        let j = l.place in
        let x : bit_or (a % 2 ^ j) (v % 2 ^ j) ≡ 0 = sym (or_mod a v j) ∙ ap (λ (i : ℕ). i % 2 ^ j) l.number ∙ mul-mod_left l.times (2 ^ j) in
        let z : a % 2 ^ j ≡ 0 = omega (arith, x, le_or_l (a % 2 ^ j) (v % 2 ^ j)) in
        let g : y < 2 ^ j = subst (λ (i : ℕ). y < i) l.is (subst (λ (i : ℕ). y < low_bit (bit_or (suc m / i) v)) h.2 f) in
        let e : a / 2 ^ j * 2 ^ j ≡ a = omega (arith, z, div-add-mod' a (2 ^ j)) in
        let t : bit_and a h.0 ≡ 0 = ap (λ (i : ℕ). bit_and i h.0) (sym e) ∙ and_shifted (a / 2 ^ j) j h.0 (omega (arith, g, h.4)) in
        ap (bit_and (suc m)) h.3 ∙ up (suc m) h.0 k ∙ ap (λ (i : ℕ). i * 2 ^ k) t ∙ omega arith

    pub written_around : shared (suc m) (y * d % v) ≡ 0
    written_around = shared-is (suc m) (y * d % v) ∙ around

    pub into_written : shared (y * d % v) (suc m) ≡ 0
    into_written = swapped (suc m) (y * d % v) written_around

    pub within_around : (n : ℕ) → shared (within (suc m) n) (y * d % v) ≡ 0
    within_around n =
        shared-is (within (suc m) n) (y * d % v) ∙ ap (λ (i : ℕ). bit_and i (y * d % v)) (is (suc m) n)
        ∙ and_assoc (y * d % v) n (suc m) ∙ ap (bit_and n) around ∙ none n

    pub into_within : (n : ℕ) → shared (y * d % v) (within (suc m) n) ≡ 0
    into_within n = swapped (within (suc m) n) (y * d % v) (within_around n)

-- parts that are masked, moved or bounded, and written numbers
pub ruleset apart_parts = (or_apart, written_or_apart, xor_apart, joined_apart, written_joined_apart, apart_joined, masked_within, moved_within, within_apart, within_written, written_within, written_above, below_written, within_above, below_within, moved_above, below_moved, written_around, into_written, within_around, into_within)
