-- Numbers of one type compared at one place. Two numbers are equal if they have the same bit at the place at
-- which they first differ, and a bit of a result of `&`, `|`, `^` or `!` is the same operation on the operands'
-- bits. So a law of these operations is proved by cases of single bits. MovedBits.antt has the bits of the
-- results of shifts, rotations and conversions.
use Rattle.std.specs.Prelude.{◌≡◌, ◌≤◌, ◌<◌, ◌⊎◌, ◌+◌, ◌-◌, ◌%◌, ◌^◌, ◌-ℤ◌, ℕ, ℤ, Bool, zero, suc, true, false, not, ◌&&◌, ◌||◌, pos, negsuc, List, [], ◌∷◌, get_or, length}
use Rattle.std.specs.Bool.{beq}
use Rattle.std.specs.Int.{int_div_euclid}
use Rattle.std.specs.Ordering.{int_eq}
use Rattle.std.proofs.Common.{refl, sym, ap, ◌∙◌, arith, inl, inr, true≢false, mod-eq_of_lt, mod-lt}
use Rattle.std.proofs.lemmas.Bool.Decides.{Decides-int_eq, same_from_decides}
use Rattle.std.proofs.lemmas.List.{get_or-map, get_or-replicate}
use Rattle.arbitrary_base.specs.Range.{InRange}
use Rattle.arbitrary_base.specs.BitList.{bits, val}
use Rattle.arbitrary_base.specs.Operation.{bitwise_and, bitwise_not, bitwise_or, bitwise_xor}
use Rattle.arbitrary_base.proofs.bit_lists.UnsignedNumber.{length-bits}
use Rattle.arbitrary_base.proofs.bit_lists.Pointwise.{get_or-pointwise, pointwise}
use Rattle.arbitrary_base.proofs.operations.BitsAndSums.{and-in_range, or-in_range, xor-in_range}
use Rattle.arbitrary_base.proofs.operations.Definition.{bits-and, bits-highest, bits-minus_one, bits-not, bits-or, bits-xor, bits-zero, not-in_range, of-bits}

-- ---- the bit of a number at a place, of however many bits

abbrev pub at : ℤ → ℕ → Bool
at x i = get_or (bits (suc i) x) i false

pub width-free : (B i : ℕ) (x : ℤ) → i < B → get_or (bits B x) i false ≡ get_or (bits (suc i) x) i false
unfolding bits
width-free zero i x h = absurd (omega arith)
width-free (suc B) zero x h = refl
width-free (suc B) (suc i) x h = width-free B i (int_div_euclid x (pos 2)) (omega arith)

-- ---- the place at which two numbers differ first. Its type is shut, so that the search leaves a place whole

first : List Bool → List Bool → ℕ
first [] m = 0
first (a ∷ l) [] = 0
first (true ∷ l) (true ∷ m) = suc (first l m)
first (false ∷ l) (false ∷ m) = suc (first l m)
first (true ∷ l) (false ∷ m) = 0
first (false ∷ l) (true ∷ m) = 0

equal-or_apart : (l m : List Bool) → length l ≡ length m → (l ≡ m) ⊎ ((first l m < length l) × (get_or l (first l m) false ≡ not (get_or m (first l m) false)))
unfolding first
equal-or_apart [] [] e = inl refl
equal-or_apart [] (b ∷ m) e = absurd (omega arith)
equal-or_apart (a ∷ l) [] e = absurd (omega arith)
equal-or_apart (true ∷ l) (false ∷ m) e = inr (omega arith, refl)
equal-or_apart (false ∷ l) (true ∷ m) e = inr (omega arith, refl)
equal-or_apart (true ∷ l) (true ∷ m) e = elim (equal-or_apart l m (omega arith)) [
  | inl q ↦ inl (ap (λ (r : List Bool). true ∷ r) q)
  | inr w ↦ inr (omega (arith, w.0), w.1)
]
equal-or_apart (false ∷ l) (false ∷ m) e = elim (equal-or_apart l m (omega arith)) [
  | inl q ↦ inl (ap (λ (r : List Bool). false ∷ r) q)
  | inr w ↦ inr (omega (arith, w.0), w.1)
]

pub Spot : Type 0
Spot = ℕ

pub spot : ℕ → ℤ → ℤ → Spot
unfolding Spot
spot B x y = first (bits B x) (bits B y) % B

pub lowest : Spot
unfolding Spot
lowest = 0

-- the number of a place
pub index : Spot → ℕ
unfolding Spot
index p = p

pub index-lowest : index lowest ≡ 0
unfolding Spot lowest index
index-lowest = refl

-- the bit of x that is u places above a place, and then v below
pub bit_near : ℤ → Spot → ℕ → ℕ → Bool
bit_near x p u v = at x (index p + u - v)

pub bit_near-is : (x : ℤ) (p : Spot) (u v : ℕ) → bit_near x p u v ≡ at x (index p + u - v)
unfolding bit_near
bit_near-is x p u v = refl

pub bit_near-listed : (B : ℕ) (x : ℤ) (p : Spot) (u v i : ℕ) → index p + u - v ≡ i → i < B → bit_near x p u v ≡ get_or (bits B x) i false
bit_near-listed B x p u v i e h = bit_near-is x p u v ∙ ap (at x) e ∙ sym (width-free B i x h)

beq-same : (b : Bool) → beq b b ≡ true
beq-same true = refl
beq-same false = refl

beq-other : (a b : Bool) → a ≡ not b → beq a b ≡ false
beq-other a true e = ap (λ (c : Bool). beq c true) e
beq-other a false e = ap (λ (c : Bool). beq c false) e

abbrev pub Compared : ℕ → ℤ → ℤ → Type 0
Compared B x y = (int_eq x y ≡ beq (bit_near x (spot B x y) 0 0) (bit_near y (spot B x y) 0 0)) × (index (spot B x y) < B)

module _ (s : Bool) (B : ℕ) (x y : ℤ) (some : 1 ≤ B) (f : InRange s B x) (g : InRange s B y) where
  at-spot : (z : ℤ) → bit_near z (spot B x y) 0 0 ≡ get_or (bits B z) (first (bits B x) (bits B y) % B) false
  unfolding Spot spot index
  at-spot z =
      let m = mod-lt (first (bits B x) (bits B y)) some in
      bit_near-listed B z (spot B x y) 0 0 (first (bits B x) (bits B y) % B) (omega arith) m

  apart : beq (bit_near x (spot B x y) 0 0) (bit_near y (spot B x y) 0 0) ≡ true → x ≡ y
  apart t = elim (equal-or_apart (bits B x) (bits B y) (length-bits B x ∙ sym (length-bits B y))) [
    | inl e ↦ of-bits s B x some f ∙ ap (val s) e ∙ sym (of-bits s B y some g)
    | inr w ↦
        let k = first (bits B x) (bits B y) in
        let r : k % B ≡ k = mod-eq_of_lt (omega (arith, w.0, length-bits B x)) in
        let a : bit_near x (spot B x y) 0 0 ≡ get_or (bits B x) k false = at-spot x ∙ ap (λ (i : ℕ). get_or (bits B x) i false) r in
        let b : bit_near y (spot B x y) 0 0 ≡ get_or (bits B y) k false = at-spot y ∙ ap (λ (i : ℕ). get_or (bits B y) i false) r in
        absurd (true≢false (sym t ∙ beq-other _ _ (a ∙ w.1 ∙ ap not (sym b))))
  ]

  pub same : Compared B x y
  unfolding Spot spot index
  same = (
    sym (same_from_decides _ _ (apart, λ (e : x ≡ y). ap (λ (z : ℤ). beq (bit_near x (spot B x y) 0 0) (bit_near z (spot B x y) 0 0)) (sym e) ∙ beq-same _) (Decides-int_eq x y)),
    mod-lt (first (bits B x) (bits B y)) some,
  )

-- a result and any number, on either side of the test
module _ (s : Bool) (B : ℕ) (x y z : ℤ) (some : 1 ≤ B) (f : InRange s B z) where
  pub and-compared : Compared B (bitwise_and s B x y) z
  and-compared = same s B _ z some (and-in_range s B x y some) f

  pub compared-and : Compared B z (bitwise_and s B x y)
  compared-and = same s B z _ some f (and-in_range s B x y some)

  pub or-compared : Compared B (bitwise_or s B x y) z
  or-compared = same s B _ z some (or-in_range s B x y some) f

  pub compared-or : Compared B z (bitwise_or s B x y)
  compared-or = same s B z _ some f (or-in_range s B x y some)

  pub xor-compared : Compared B (bitwise_xor s B x y) z
  xor-compared = same s B _ z some (xor-in_range s B x y some) f

  pub compared-xor : Compared B z (bitwise_xor s B x y)
  compared-xor = same s B z _ some f (xor-in_range s B x y some)

module _ (s : Bool) (B : ℕ) (x z : ℤ) (some : 1 ≤ B) (f : InRange s B z) where
  pub not-compared : Compared B (bitwise_not s B x) z
  not-compared = same s B _ z some (not-in_range s B x some) f

  pub compared-not : Compared B z (bitwise_not s B x)
  compared-not = same s B z _ some f (not-in_range s B x some)

-- ---- the bits of a result

-- each law is a sum, by the first operand's bit: the search splits sums before all else
pub by_bit : (f : Bool → Bool → Bool) (a b r : Bool) → r ≡ f a b → ((r ≡ f true b) × (a ≡ true)) ⊎ ((r ≡ f false b) × (a ≡ false))
by_bit f true b r e = inl (e, refl)
by_bit f false b r e = inr (e, refl)

module _ (B : ℕ) (p : Spot) (u v : ℕ) (l : v ≤ index p + u) (h : index p + u < B + v) where
  within : index p + u - v < B
  within = omega arith

  listed : (x : ℤ) → bit_near x p u v ≡ get_or (bits B x) (index p + u - v) false
  listed x = bit_near-listed B x p u v _ refl within

  module _ (s : Bool) (x y : ℤ) where
    of-operands : (f : Bool → Bool → Bool) (r : ℤ) → f false false ≡ false → bits B r ≡ pointwise f (bits B x) (bits B y) → bit_near r p u v ≡ f (bit_near x p u v) (bit_near y p u v)
    of-operands f r z e =
        listed r ∙ ap (λ (m : List Bool). get_or m (index p + u - v) false) e
        ∙ get_or-pointwise f _ (bits B x) (bits B y) z (length-bits B x ∙ sym (length-bits B y))
        ∙ (λ i. f (sym (listed x) i) (sym (listed y) i))

    pub bit_near-and : ((bit_near (bitwise_and s B x y) p u v ≡ bit_near y p u v) × (bit_near x p u v ≡ true)) ⊎ ((bit_near (bitwise_and s B x y) p u v ≡ false) × (bit_near x p u v ≡ false))
    bit_near-and = by_bit (λ a b. a && b) _ _ _ (of-operands (λ a b. a && b) _ refl (bits-and s B x y))

    pub bit_near-or : ((bit_near (bitwise_or s B x y) p u v ≡ true) × (bit_near x p u v ≡ true)) ⊎ ((bit_near (bitwise_or s B x y) p u v ≡ bit_near y p u v) × (bit_near x p u v ≡ false))
    bit_near-or = by_bit (λ a b. a || b) _ _ _ (of-operands (λ a b. a || b) _ refl (bits-or s B x y))

    pub bit_near-xor : ((bit_near (bitwise_xor s B x y) p u v ≡ not (beq true (bit_near y p u v))) × (bit_near x p u v ≡ true))
        ⊎ ((bit_near (bitwise_xor s B x y) p u v ≡ not (beq false (bit_near y p u v))) × (bit_near x p u v ≡ false))
    bit_near-xor = by_bit (λ a b. not (beq a b)) _ _ _ (of-operands (λ a b. not (beq a b)) _ refl (bits-xor s B x y))

  pub bit_near-not : (s : Bool) (x : ℤ) → ((bit_near (bitwise_not s B x) p u v ≡ false) × (bit_near x p u v ≡ true)) ⊎ ((bit_near (bitwise_not s B x) p u v ≡ true) × (bit_near x p u v ≡ false))
  bit_near-not s x = by_bit (λ a b. not a) _ true _ (listed _ ∙ ap (λ (m : List Bool). get_or m (index p + u - v) false) (bits-not s B x)
      ∙ get_or-map not (bits B x) _ false false (let n = length-bits B x in omega (arith, within)) ∙ ap not (sym (listed x)))

-- ---- the bits of 0, and of the numbers whose bits are all one

module _ (p : Spot) (u v : ℕ) where
  pub bit_near-zero : bit_near (pos 0) p u v ≡ false
  bit_near-zero =
      let i = index p + u - v in
      bit_near-listed (suc i) (pos 0) p u v i refl (omega arith) ∙ ap (λ (l : List Bool). get_or l i false) (bits-zero (suc i)) ∙ get_or-replicate (suc i) i false false (omega arith)

  pub bit_near-minus_one : bit_near (negsuc 0) p u v ≡ true
  bit_near-minus_one =
      let i = index p + u - v in
      bit_near-listed (suc i) (negsuc 0) p u v i refl (omega arith) ∙ ap (λ (l : List Bool). get_or l i false) (bits-minus_one (suc i)) ∙ get_or-replicate (suc i) i true false (omega arith)

pub bit_near-highest : (B : ℕ) (x y z : ℤ) (u v : ℕ) → x ≡ pos (2 ^ B) -ℤ pos 1 → index (spot B y z) + u < B + v → v ≤ index (spot B y z) + u → bit_near x (spot B y z) u v ≡ true
bit_near-highest B x y z u v e h l =
    let i = index (spot B y z) + u - v in
    bit_near-listed B x (spot B y z) u v i refl (omega arith) ∙ ap (λ (w : ℤ). get_or (bits B w) i false) e ∙ ap (λ (m : List Bool). get_or m i false) (bits-highest B)
    ∙ get_or-replicate B i true false (omega arith)
