-- A number read bit by bit, for proofs about generic code: two numbers of a type are equal, or differ in a bit,
-- and a bit of a result of `&`, `|`, `^` or `!` is the same operation on the operands' bits.
use Rattle.std.specs.Bool.{beq}
use Rattle.std.specs.Ordering.{int_eq}
use Rattle.std.specs.Prelude.{Bool, List, [], false, get_or, length, not, pos, suc, true, ℕ, ℤ, ◌&&◌, ◌<◌, ◌||◌, ◌∷◌, ◌≡◌, ◌≤◌, ◌⊎◌}
use Rattle.std.proofs.Common.{ap, arith, inl, inr, refl, sym, ◌∙◌}
use Rattle.std.proofs.lemmas.Bool.Decides.{Decides-int_eq}
use Rattle.std.proofs.lemmas.List.{get_or-map, get_or-replicate}
use Rattle.arbitrary_base.specs.BitList.{bits, val}
use Rattle.arbitrary_base.specs.Operation.{bitwise_and, bitwise_not, bitwise_or, bitwise_xor}
use Rattle.arbitrary_base.proofs.bit_lists.Pointwise.{get_or-pointwise, pointwise}
use Rattle.arbitrary_base.proofs.bit_lists.UnsignedNumber.{length-bits}
use Rattle.arbitrary_base.proofs.operations.Expression.{both, apart, complement, first, second, none, same}
use Rattle.arbitrary_base.proofs.operations.Definition.{and-is, bits-and, bits-not, bits-or, bits-xor, bits-zero, not-is, of-bits, or-is, xor-is, zero-in_range}

-- the bit of x at place k of B
unfoldable pub bit : ℕ → ℤ → ℕ → Bool
bit B x k = get_or (bits B x) k false

-- one of B places. The type is shut, so that the search leaves a place whole
pub Place : ℕ → Type 0
Place B = (i : ℕ) × (i < B)

-- the bit of x at a place
pub bit_at : (B : ℕ) → ℤ → Place B → Bool
unfolding Place
bit_at B x i = bit B x i.0

-- whether x is the number of its own bits, as each number of the type is
pub is_own_bits : Bool → ℕ → ℤ → Bool
is_own_bits s B x = int_eq (val s (bits B x)) x

pub own : (s : Bool) (B : ℕ) (x : ℤ) → is_own_bits s B x ≡ true → val s (bits B x) ≡ x
unfolding is_own_bits
own s B x h = (Decides-int_eq _ _).0 h

pub own_bits : (s : Bool) (B : ℕ) (x : ℤ) → val s (bits B x) ≡ x → is_own_bits s B x ≡ true
unfolding is_own_bits
own_bits s B x h = (Decides-int_eq _ _).1 h

pub own_bits-zero : (s : Bool) (B : ℕ) → 1 ≤ B → is_own_bits s B (pos 0) ≡ true
own_bits-zero s B h = own_bits s B _ (sym (of-bits s B (pos 0) h (zero-in_range s B)))

-- ---- two numbers of the type are equal, or differ in a bit

differ : (l m : List Bool) → length l ≡ length m → (l ≡ m) ⊎ ((i : ℕ) × (i < length l) × (get_or l i false ≡ not (get_or m i false)))
differ [] [] e = inl refl
differ [] (b ∷ m) e = absurd (omega arith)
differ (a ∷ l) [] e = absurd (omega arith)
differ (true ∷ l) (false ∷ m) e = inr (0, omega arith, refl)
differ (false ∷ l) (true ∷ m) e = inr (0, omega arith, refl)
differ (true ∷ l) (true ∷ m) e = elim (differ l m (omega arith)) [
  | inl q ↦ inl (ap (λ (r : List Bool). true ∷ r) q)
  | inr w ↦ inr (suc w.0, omega (arith, w.1), w.2)
]
differ (false ∷ l) (false ∷ m) e = elim (differ l m (omega arith)) [
  | inl q ↦ inl (ap (λ (r : List Bool). false ∷ r) q)
  | inr w ↦ inr (suc w.0, omega (arith, w.1), w.2)
]

pub equal-or_differ : (s : Bool) (B : ℕ) (x y : ℤ) → is_own_bits s B x ≡ true → is_own_bits s B y ≡ true
    → (int_eq x y ≡ true) ⊎ ((i : Place B) × (bit_at B x i ≡ not (bit_at B y i)))
unfolding Place bit bit_at
equal-or_differ s B x y h g = elim (differ (bits B x) (bits B y) (length-bits B x ∙ sym (length-bits B y))) [
  | inl e ↦ inl ((Decides-int_eq x y).1 (sym (own s B x h) ∙ ap (val s) e ∙ own s B y g))
  | inr w ↦ inr ((w.0, omega (arith, w.1, length-bits B x)), w.2)
]

-- ---- the bits of a result

bit-of_operands : (f : Bool → Bool → Bool) (B k : ℕ) (x y r : ℤ) → f false false ≡ false → bits B r ≡ pointwise f (bits B x) (bits B y)
    → bit B r k ≡ f (bit B x k) (bit B y k)
unfolding bit
bit-of_operands f B k x y r z e =
    ap (λ (l : List Bool). get_or l k false) e ∙ get_or-pointwise f k (bits B x) (bits B y) z (length-bits B x ∙ sym (length-bits B y))

module _ (s : Bool) (B k : ℕ) (x y : ℤ) where
  pub bit-and : bit B (bitwise_and s B x y) k ≡ (bit B x k && bit B y k)
  bit-and = bit-of_operands (λ a b. a && b) B k x y _ refl (bits-and s B x y)

  pub bit-or : bit B (bitwise_or s B x y) k ≡ (bit B x k || bit B y k)
  bit-or = bit-of_operands (λ a b. a || b) B k x y _ refl (bits-or s B x y)

  pub bit-xor : bit B (bitwise_xor s B x y) k ≡ not (beq (bit B x k) (bit B y k))
  bit-xor = bit-of_operands (λ a b. not (beq a b)) B k x y _ refl (bits-xor s B x y)

pub bit-not : (s : Bool) (B k : ℕ) (x : ℤ) → k < B → bit B (bitwise_not s B x) k ≡ not (bit B x k)
unfolding bit
bit-not s B k x h =
    ap (λ (l : List Bool). get_or l k false) (bits-not s B x) ∙ get_or-map not (bits B x) k false false (omega (arith, length-bits B x))

pub bit-zero : (B k : ℕ) → k < B → bit B (pos 0) k ≡ false
unfolding bit
bit-zero B k h = ap (λ (l : List Bool). get_or l k false) (bits-zero B) ∙ get_or-replicate B k false false h

-- the same at a shut place
pub bit_at-zero : (B : ℕ) (i : Place B) → bit_at B (pos 0) i ≡ false
unfolding Place bit_at
bit_at-zero B i = bit-zero B i.0 i.1

module _ (s : Bool) (B : ℕ) (x y : ℤ) (i : Place B) where
  pub bit_at-and : bit_at B (bitwise_and s B x y) i ≡ (bit_at B x i && bit_at B y i)
  unfolding Place bit_at
  bit_at-and = bit-and s B i.0 x y

  pub bit_at-or : bit_at B (bitwise_or s B x y) i ≡ (bit_at B x i || bit_at B y i)
  unfolding Place bit_at
  bit_at-or = bit-or s B i.0 x y

  pub bit_at-xor : bit_at B (bitwise_xor s B x y) i ≡ not (beq (bit_at B x i) (bit_at B y i))
  unfolding Place bit_at
  bit_at-xor = bit-xor s B i.0 x y

pub bit_at-not : (s : Bool) (B : ℕ) (x : ℤ) (i : Place B) → bit_at B (bitwise_not s B x) i ≡ not (bit_at B x i)
unfolding Place bit_at
bit_at-not s B x i = bit-not s B i.0 x i.1

pub own_bits-and : (s : Bool) (B : ℕ) (x y : ℤ) → is_own_bits s B (bitwise_and s B x y) ≡ true
own_bits-and s B x y = own_bits s B _ (ap (val s) (bits-and s B x y) ∙ sym (and-is s B x y))

pub own_bits-or : (s : Bool) (B : ℕ) (x y : ℤ) → is_own_bits s B (bitwise_or s B x y) ≡ true
own_bits-or s B x y = own_bits s B _ (ap (val s) (bits-or s B x y) ∙ sym (or-is s B x y))

pub own_bits-xor : (s : Bool) (B : ℕ) (x y : ℤ) → is_own_bits s B (bitwise_xor s B x y) ≡ true
own_bits-xor s B x y = own_bits s B _ (ap (val s) (bits-xor s B x y) ∙ sym (xor-is s B x y))

pub own_bits-not : (s : Bool) (B : ℕ) (x : ℤ) → is_own_bits s B (bitwise_not s B x) ≡ true
own_bits-not s B x = own_bits s B _ (ap (val s) (bits-not s B x) ∙ sym (not-is s B x))

-- ---- results that are an operand, where a clause says it of numbers

pub and-itself : (s : Bool) (B : ℕ) (x : ℤ) → is_own_bits s B x ≡ true → bitwise_and s B x x ≡ x
and-itself s B x h = same s B x x x (both first first) first (λ a b c. grind arith) tt (sym (own s B x h))

pub not-twice : (s : Bool) (B : ℕ) (x : ℤ) → is_own_bits s B x ≡ true → bitwise_not s B (bitwise_not s B x) ≡ x
not-twice s B x h = same s B x x x (complement (complement first)) first (λ a b c. grind arith) tt (sym (own s B x h))

pub xor-twice : (s : Bool) (B : ℕ) (x y : ℤ) → is_own_bits s B x ≡ true → bitwise_xor s B (bitwise_xor s B x y) y ≡ x
xor-twice s B x y h = same s B x y y (apart (apart first second) second) first (λ a b c. grind arith) tt (sym (own s B x h))

pub xor-none_equal : (s : Bool) (B : ℕ) (x y : ℤ) → is_own_bits s B x ≡ true → is_own_bits s B y ≡ true → bitwise_xor s B x y ≡ pos 0 → x ≡ y
xor-none_equal s B x y h g e =
    sym (xor-twice s B x y h) ∙ ap (λ (z : ℤ). bitwise_xor s B z y) e
    ∙ same s B y y y (apart none first) first (λ a b c. grind arith) tt (sym (own s B y g))
