-- The laws of GenericLaws.antt hold of numbers of each sign and width.
use Rattle.std.specs.Prelude.{Bool, List, false, map, not, pos, true, ℕ, ℤ, ◌%◌, ◌+ℤ◌, ◌+◌, ◌-ℤ◌, ◌≡◌, ◌≤◌}
use Rattle.std.specs.Ordering.{int_cmp, int_eq}
use Rattle.std.proofs.Common.{ap, ap₂, arith, mod-lt, refl, subst, sym, ◌∙◌}
use Rattle.arbitrary_base.specs.Range.{InRange, hi, lo}
use Rattle.arbitrary_base.specs.Operation.{bitwise_and, bitwise_not, bitwise_or, bitwise_xor, reversed, shifted_left, shifted_right, wrapped_difference, wrapped_product, wrapped_sum}
use Rattle.arbitrary_core.proofs.GenericLaws.{BitCountLaws, BitLaws, BitSumLaws, BitwiseLaws, ComplementLaws, CountLaws, MovedBitLaws, MovementLaws, Operations, OrderLaws, ProductLaws, SumLaws, ValueLaws, WrappingLaws}
use Rattle.arbitrary_base.proofs.bit_lists.TwosComplement.{val-bits}
use Rattle.arbitrary_base.proofs.modular.Residue.{wrap-in_range}
use Rattle.arbitrary_base.proofs.operations.Amount.{amount-none, count_of_ones, difference-after_sum, difference-again, difference-alike, difference-of_ones, difference-own, difference-with_zero, leading_ones-of_not, leading_run, leading_run-is, leading_run-of_reversed, leading_zeros-of_not, left, left-none, left-of_amount, left-of_and, left-of_or, left-of_right, left-of_sum, left-of_xor, left-of_zero, left-own, left_turn-of_amount, ones-is, ones-of_not, ones-of_reversed, ones-of_turned, ones-of_zero, own-in_range, own_value, own_value-is, product-again, product-own, product-with_sum, reversed-back, reversed-of_ones, reversed-of_turned, reversed-of_zero, reversed-own, right, right-none, right-of_amount, right-of_and, right-of_or, right-of_xor, right-of_zero, right-own, right_turn-of_amount, sum-after_difference, sum-again, sum-own, sum-to_difference_of, sum-where_disjoint, sum-with_negated, sum-with_zero, trailing_ones-of_not, trailing_run, trailing_run-is, trailing_run-of_reversed, trailing_zeros-of_not, turned, turned-none, turned-of_and, turned-of_not, turned-of_ones, turned-of_or, turned-of_xor, turned-of_zero, turned-own}
use Rattle.arbitrary_base.proofs.operations.BitByBit.{and-itself, bit_at, bit_at-and, bit_at-not, bit_at-or, bit_at-xor, bit_at-zero, equal-or_differ, is_own_bits, not-twice, own, own_bits, own_bits-and, own_bits-not, own_bits-or, own_bits-xor, own_bits-zero, xor-none_equal, xor-twice}
use Rattle.arbitrary_base.proofs.operations.BitsAndSums.{difference-of_or_and, sum-of_or_and}
use Rattle.arbitrary_base.proofs.operations.Complement.{difference-of_or, negated-is_sum, not-of_difference, not-of_sum, sum-with_not}
use Rattle.arbitrary_base.proofs.operations.PopulationAndRuns.{popcount-of_and, popcount-of_and_or}
use Rattle.arbitrary_base.proofs.operations.RotateAndReverse.{reversed-and, reversed-not, reversed-or, reversed-shifted_left, reversed-xor}
use Rattle.arbitrary_base.proofs.operations.Shift.{left_right-mask_not, shifted_left-difference, shifted_left-is_product, shifted_right-not}
use Rattle.arbitrary_base.proofs.operations.WrappedRing.{difference-twice, product-of_difference, wrapped_product-associates, wrapped_product-commutes, wrapped_product-zero, wrapped_sum-commutes}
use Rattle.arbitrary_core.proofs.ComplementOrder.{complements-turned}
use Rattle.arbitrary_base.specs.BitList.{bits, bits_and, bits_or, bits_xor, val}
use Rattle.std.proofs.lemmas.Bool.Decides.{Decides-int_eq}
use Rattle.arbitrary_base.proofs.operations.Bitwise.{bitwise_and-commutes, bitwise_or-associates, bitwise_or-commutes, bitwise_xor-commutes, not-and_parts, not-or_parts, or-distributes_and}
use Rattle.arbitrary_base.proofs.operations.Definition.{and-is, not-is, or-is, xor-is}
use Rattle.arbitrary_base.proofs.operations.OperatorOrder.{and-at_most, and-at_most_left, not-mirrors, not-of_greatest, not-of_least, or-at_least, or-at_least_right}
use Rattle.arbitrary_core.proofs.SingleBits.{and-one, one-moved, rest-is_complement}
use Rattle.arbitrary_core.proofs.EndOfTwo.{greater-at_least, lesser-at_most}

-- ---- an amount that is a remainder by the width

in_width : (B m k : ℕ) → 1 ≤ B → m ≡ k % B → m ≤ B
in_width B m k h e = let l = mod-lt k h in omega arith

-- ---- numbers that wrap

number-in_range : (s : Bool) (B : ℕ) (x : ℤ) → 1 ≤ B → is_own_bits s B x ≡ true → InRange s B x
number-in_range s B x h e = subst (InRange s B) (sym (val-bits s B x h) ∙ own s B x e) (wrap-in_range s B x h)

product-moved : (s : Bool) (B : ℕ) (a b : ℤ) (k : ℕ) → 1 ≤ B → k ≤ B → shifted_left s B (wrapped_product s B a b) k ≡ wrapped_product s B (shifted_left s B a k) b
product-moved s B a b k h g =
    shifted_left-is_product s B _ k h g
    ∙ wrapped_product-associates s B a b _ h
    ∙ ap (wrapped_product s B a) (wrapped_product-commutes s B b _ h)
    ∙ sym (wrapped_product-associates s B a _ b h)
    ∙ ap (λ (x : ℤ). wrapped_product s B x b) (sym (shifted_left-is_product s B a k h g))

left_right-plain : (s : Bool) (B : ℕ) (x : ℤ) (k : ℕ) → s ≡ false → k ≤ B
    → shifted_right s B (shifted_left s B x k) k ≡ bitwise_and s B x (shifted_right s B (bitwise_not s B (pos 0)) k)
left_right-plain false B x k e h = left_right-mask_not B x k h
left_right-plain true B x k e h = absurd cc

reversed-plain : (s : Bool) (B : ℕ) (x : ℤ) (k : ℕ) → s ≡ false → k ≤ B → reversed s B (shifted_left s B x k) ≡ shifted_right s B (reversed s B x) k
reversed-plain false B x k e h = reversed-shifted_left B x k h
reversed-plain true B x k e h = absurd cc

right-not_signed : (s : Bool) (B : ℕ) (x : ℤ) (k : ℕ) → s ≡ true → 1 ≤ B → k ≤ B → InRange s B x
    → shifted_right s B (bitwise_not s B x) k ≡ bitwise_not s B (shifted_right s B x k)
right-not_signed true B x k e h g f = shifted_right-not B x k h g f
right-not_signed false B x k e h g f = absurd cc

-- ---- counts

ones-at_most : (s : Bool) (B : ℕ) (a b : ℤ) → count_of_ones B (bitwise_and s B a b) ≤ count_of_ones B a
ones-at_most s B a b =
    let e = ones-is B (bitwise_and s B a b) _ refl in
    let f = ones-is B a _ refl in
    let g = (popcount-of_and s B a b).0 in
    omega arith

-- ---- that they hold of numbers

pub counts-hold : (s : Bool) (B : ℕ) → CountLaws (bitwise_and s B) (bitwise_or s B) (count_of_ones B)
unfolding CountLaws
counts-hold s B = (
  λ a b. sym (ap₂ (λ (m n : ℕ). m + n) (ones-is B _ _ refl) (ones-is B _ _ refl))
      ∙ popcount-of_and_or s B a b
      ∙ ap₂ (λ (m n : ℕ). m + n) (ones-is B _ _ refl) (ones-is B _ _ refl),
  λ a b. ones-at_most s B a b,
)

module _ (s : Bool) (B : ℕ) (valid : Type 0) (some : valid → 1 ≤ B) where
  pub sums-hold : SumLaws valid (is_own_bits s B) (wrapped_sum s B) (wrapped_difference s B)
  unfolding SumLaws
  sums-hold = (
    λ a b c v e h. difference-after_sum s B b a c b (some v) (e ∙ wrapped_sum-commutes s B a b (some v)) (sym (own_value-is s B b b refl h)),
    λ a b c d v e. ap (λ (x : ℤ). wrapped_difference s B x c) e ∙ difference-twice s B a b c (some v),
    λ a b c d v e. ap (λ (x : ℤ). wrapped_difference s B x c) e
        ∙ difference-twice s B a b c (some v)
        ∙ ap (wrapped_difference s B a) (wrapped_sum-commutes s B b c (some v))
        ∙ sym (difference-twice s B a c b (some v)),
  )

  pub bit_sums-hold : BitSumLaws valid (λ x. x) (bitwise_and s B) (bitwise_or s B) (bitwise_xor s B) (bitwise_not s B) (wrapped_sum s B) (wrapped_difference s B)
  unfolding BitSumLaws
  bit_sums-hold = (
    λ a b c v e. ap (λ (x : ℤ). wrapped_sum s B x (bitwise_or s B a b)) e
        ∙ wrapped_sum-commutes s B _ _ (some v)
        ∙ sum-of_or_and s B a b (some v),
    λ a b c v e. ap (λ (x : ℤ). wrapped_sum s B x (bitwise_and s B a b)) e ∙ sum-of_or_and s B a b (some v),
    λ a b c d v e f. ap (wrapped_difference s B d) e
        ∙ ap (λ (x : ℤ). wrapped_difference s B x (bitwise_and s B a b)) f
        ∙ difference-of_or_and s B a b (some v),
    λ a b v e. ap (wrapped_sum s B a) e ∙ sum-with_not s B a (some v),
    λ a b c v e f. ap (wrapped_sum s B b) f
        ∙ ap (λ (x : ℤ). wrapped_sum s B x (pos 1)) e
        ∙ sym (negated-is_sum s B a (some v)),
    λ a b c v e. ap (λ (x : ℤ). wrapped_difference s B x a) e ∙ difference-of_or s B a b (some v),
  )

  pub orders-hold : OrderLaws valid (is_own_bits s B) (bitwise_not s B) int_cmp
  unfolding OrderLaws
  orders-hold = λ a b v f g. complements-turned s B a b _ _ (some v) f g refl refl

  pub complements-hold : ComplementLaws valid (bitwise_not s B) (wrapped_sum s B) (wrapped_difference s B)
  unfolding ComplementLaws
  complements-hold = (
    λ a b c v e. ap (bitwise_not s B) e ∙ not-of_difference s B a b (some v),
    λ a b c v e. ap (bitwise_not s B) e ∙ not-of_sum s B a b (some v),
  )

  pub products-hold : ProductLaws B valid (left s B) (wrapped_difference s B) (wrapped_product s B)
  unfolding ProductLaws
  products-hold = (
    λ a b c d v e. ap (wrapped_product s B a) e ∙ product-of_difference s B a b c (some v),
    λ a b c m k v f e. sym (left-of_amount s B c m (some v))
        ∙ ap (λ (x : ℤ). shifted_left s B x m) e
        ∙ shifted_left-difference s B a b m (some v) (in_width B m k (some v) f)
        ∙ ap₂ (wrapped_difference s B) (left-of_amount s B a m (some v)) (left-of_amount s B b m (some v)),
    λ a b c m k v f e. sym (left-of_amount s B c m (some v))
        ∙ ap (λ (x : ℤ). shifted_left s B x m) e
        ∙ product-moved s B a b m (some v) (in_width B m k (some v) f)
        ∙ ap (λ (x : ℤ). wrapped_product s B x b) (left-of_amount s B a m (some v)),
  )

  pub moved_bits-hold : MovedBitLaws s B valid (is_own_bits s B) (λ x. x) (left s B) (right s B) (bitwise_and s B) (bitwise_not s B) (reversed s B)
  unfolding MovedBitLaws
  moved_bits-hold = (
    λ a b m k v n f e. sym (right-of_amount s B b m (some v))
        ∙ ap (λ (x : ℤ). shifted_right s B x m) (e ∙ sym (left-of_amount s B a m (some v)))
        ∙ left_right-plain s B a m n (in_width B m k (some v) f)
        ∙ ap (bitwise_and s B a) (right-of_amount s B _ m (some v)),
    λ a b m k v n f e. ap (reversed s B) (e ∙ sym (left-of_amount s B a m (some v)))
        ∙ reversed-plain s B a m n (in_width B m k (some v) f)
        ∙ right-of_amount s B _ m (some v),
    λ a b m k v n h f e. sym (right-of_amount s B b m (some v))
        ∙ ap (λ (x : ℤ). shifted_right s B x m) e
        ∙ right-not_signed s B a m n (some v) (in_width B m k (some v) f) (number-in_range s B a (some v) h)
        ∙ ap (bitwise_not s B) (right-of_amount s B a m (some v)),
  )

-- ---- that the other laws hold of numbers

-- what the operators of `UInt` and `Int` give
abbrev both_give : (List Bool → List Bool → List Bool) → Bool → ℕ → ℤ → ℤ → ℤ → Type 0
both_give f s B a b r = (r ≡ val s (f (bits B a) (bits B b))) × (val s (bits B a) ≡ a) × (val s (bits B b) ≡ b)

abbrev not_gives : Bool → ℕ → ℤ → ℤ → Type 0
not_gives s B a r = (r ≡ val s (map not (bits B a))) × (val s (bits B a) ≡ a)

abbrev sub_gives : Bool → ℕ → ℤ → ℤ → ℤ → Type 0
sub_gives s B a b r = (r ≡ a -ℤ b) × InRange s B a × InRange s B b

-- the operations on the numbers of a type
abbrev pub operations : (s : Bool) (B : ℕ) → Operations ℤ B
operations s B = record {
  bit = bit_at B;
  value_of = λ x. x;
  fits = is_own_bits s B;
  own = own_value s B;
  and_of = bitwise_and s B;
  or_of = bitwise_or s B;
  xor_of = bitwise_xor s B;
  not_of = bitwise_not s B;
  ends_sum = lo s B +ℤ hi s B;
  shl_of = left s B;
  shr_of = right s B;
  rotl_of = turned s B;
  rev_of = reversed s B;
  ones_of = count_of_ones B;
  leading_of = leading_run B;
  trailing_of = trailing_run B;
  sum_of = wrapped_sum s B;
  difference_of = wrapped_difference s B;
  product_of = wrapped_product s B;
}

pub bitwise-hold : (s : Bool) (B : ℕ) → BitwiseLaws s B (λ x. x) (both_give bits_and s B) (both_give bits_or s B) (both_give bits_xor s B) (not_gives s B)
bitwise-hold s B = record {
  and_law = λ a b r h. h.0 ∙ sym (and-is _ _ _ _);
  or_law = λ a b r h. h.0 ∙ sym (or-is _ _ _ _);
  xor_law = λ a b r h. h.0 ∙ sym (xor-is _ _ _ _);
  complement_law = λ a r h. h.0 ∙ sym (not-is _ _ _);
}

pub value-hold : (s : Bool) (B : ℕ) (valid : Type 0) (some : valid → 1 ≤ B) → ValueLaws s B valid (λ x. x) int_eq int_cmp (operations s B)
value-hold s B valid some = record {
  extremes_law = λ a b. let e = lesser-at_most a b in let f = greater-at_least a b in (refl, refl, e.0, e.1, f.0, f.1);
  value_law = λ a. (refl, refl);
  equal_law = λ a b. (refl, λ e. (Decides-int_eq a b).0 e, λ e. (Decides-int_eq a b).1 e);
  fits_law = λ a t n v f d e. own-in_range _ _ _ (some v) (subst (λ (m : ℕ). InRange s m a) e (subst (λ (u : Bool). InRange u n a) d f));
  own_law = λ a b e h. own_value-is _ _ _ _ e h;
  zero_fits = λ a h e. ap (is_own_bits s B) e ∙ own_bits-zero _ _ (some h);
  zero_bit = λ a i e. ap (λ (x : ℤ). bit_at B x i) e ∙ bit_at-zero _ i;
  differ_law = λ a b h g. equal-or_differ s B a b h g;
}

pub bit-hold : (s : Bool) (B : ℕ) (valid : Type 0) (some : valid → 1 ≤ B) → BitLaws s B valid (λ x. x) (both_give bits_and s B) (both_give bits_or s B) (both_give bits_xor s B) (not_gives s B) (operations s B)
bit-hold s B valid some = record {
  and_gives = λ a b r h. (h.0 ∙ sym (and-is _ _ _ _), own_bits _ _ _ h.1, own_bits _ _ _ h.2);
  and_at_most_left = λ a b r h n. and-at_most_left _ _ _ _ _ n h.0 h.1;
  and_at_most_right = λ a b r h n. and-at_most _ _ _ _ _ n h.0 h.2;
  and_one = λ a b r h v e. and-one _ _ _ _ _ (some v) h.0 h.2 e;
  and_fits = λ a b. own_bits-and _ _ _ _;
  and_bit = λ a b i. bit_at-and s B a b i;
  and_number = λ x y. refl;
  and_commutes = λ a b. bitwise_and-commutes s B a b;
  and_itself = λ a b e h. ap (bitwise_and s B a) e ∙ and-itself _ _ _ h;
  or_gives = λ a b r h. (h.0 ∙ sym (or-is _ _ _ _), own_bits _ _ _ h.1, own_bits _ _ _ h.2);
  or_at_least_left = λ a b r h n. or-at_least _ _ _ _ _ n h.0 h.1;
  or_at_least_right = λ a b r h n. or-at_least_right _ _ _ _ _ n h.0 h.2;
  or_fits = λ a b. own_bits-or _ _ _ _;
  or_bit = λ a b i. bit_at-or s B a b i;
  or_number = λ x y. refl;
  or_commutes = λ a b. bitwise_or-commutes s B a b;
  or_associates = λ a b c d e. ap (λ (x : ℤ). bitwise_or s B x c) e ∙ bitwise_or-associates s B a b c;
  xor_gives = λ a b r h. (h.0 ∙ sym (xor-is _ _ _ _), own_bits _ _ _ h.1, own_bits _ _ _ h.2);
  xor_fits = λ a b. own_bits-xor _ _ _ _;
  xor_bit = λ a b i. bit_at-xor s B a b i;
  xor_number = λ x y. refl;
  xor_commutes = λ a b. bitwise_xor-commutes s B a b;
  xor_twice = λ a b c e h. ap (λ (x : ℤ). bitwise_xor s B x b) e ∙ xor-twice _ _ _ _ h;
  xor_none = λ a b. (refl, λ h g e. xor-none_equal _ _ _ _ h g e);
  complement_gives = λ a r h. (h.0 ∙ sym (not-is _ _ _), own_bits _ _ _ h.1);
  not_mirrors = λ a r h v. (a, refl, not-mirrors _ _ _ _ (some v) h.0 h.1);
  not_of_greatest = λ a r h v e. not-of_greatest _ _ _ _ (some v) h.0 h.1 e;
  not_of_least = λ a r h v e. not-of_least _ _ _ _ (some v) h.0 h.1 e;
  not_fits = λ a. own_bits-not _ _ _;
  not_bit = λ a i b e. bit_at-not s B a i ∙ ap not (sym e);
  not_number = λ x a e. ap (bitwise_not s B) (sym e);
  not_twice = λ a b e h. ap (bitwise_not s B) e ∙ not-twice _ _ _ h;
  or_of_and = λ a b c d e. ap (bitwise_or s B a) e ∙ or-distributes_and s B a b c;
  not_of_and = λ a b c e. ap (bitwise_not s B) e ∙ not-and_parts s B a b;
  not_of_or = λ a b c e. ap (bitwise_not s B) e ∙ not-or_parts s B a b;
}

pub movement-hold : (s : Bool) (B : ℕ) (valid : Type 0) (some : valid → 1 ≤ B) → MovementLaws s B valid (λ x. x) (operations s B)
movement-hold s B valid some = record {
  shl_law = λ x m h. left-of_amount _ _ _ _ (some h);
  one_moved = λ x m k v n e d g. one-moved _ _ _ _ _ n (some v) e d g;
  shl_fits = λ a t. left-own s B a t;
  shl_none = λ a b e. left-none s B a b e;
  shl_zero = λ a t h e. left-of_zero s B a t (some h) e;
  shl_of_and = λ a b c t e. left-of_and s B a b c t e;
  shl_of_or = λ a b c t e. left-of_or s B a b c t e;
  shl_of_xor = λ a b c t e. left-of_xor s B a b c t e;
  shr_law = λ x m h. right-of_amount _ _ _ _ (some h);
  shr_fits = λ a t. right-own s B a t;
  shr_none = λ a b e. right-none s B a b e;
  shr_zero = λ a t h e. right-of_zero s B a t (some h) e;
  shr_of_and = λ a b c t e. right-of_and s B a b c t e;
  shr_of_or = λ a b c t e. right-of_or s B a b c t e;
  shr_of_xor = λ a b c t e. right-of_xor s B a b c t e;
  shl_of_shr = λ a c t e. left-of_right s B a c t e;
  rotl_law = λ x m. left_turn-of_amount _ _ _ _;
  rotr_law = λ x m. right_turn-of_amount _ _ _ _;
  rotl_fits = λ a t. turned-own s B a t;
  rotl_none = λ a b e. turned-none s B a b e;
  rotl_zero = λ a t h e. turned-of_zero s B a t (some h) e;
  rotl_ones = λ a t h e. turned-of_ones s B a t (some h) e;
  no_amount = λ m e. amount-none _ _ e;
  rotl_of_and = λ a b c t e. turned-of_and s B a b c t e;
  rotl_of_or = λ a b c t e. turned-of_or s B a b c t e;
  rotl_of_xor = λ a b c t e. turned-of_xor s B a b c t e;
  rotl_of_not = λ a c t e. turned-of_not s B a c t e;
  rev_law = λ x a e. ap (reversed s B) (sym e);
  rev_fits = λ a. reversed-own _ _ _;
  rev_twice = λ a b c e f. reversed-back _ _ _ _ _ e f;
  rev_zero = λ a h e. reversed-of_zero _ _ _ (some h) e;
  rev_ones = λ a h e. reversed-of_ones _ _ _ (some h) e;
  rev_of_and = λ a b c e. ap (reversed s B) e ∙ reversed-and _ _ _ _;
  rev_of_or = λ a b c e. ap (reversed s B) e ∙ reversed-or _ _ _ _;
  rev_of_xor = λ a b c e. ap (reversed s B) e ∙ reversed-xor _ _ _ _;
  rev_of_not = λ a c e. ap (reversed s B) e ∙ reversed-not _ _ _;
  rev_of_rotl = λ a c t e. reversed-of_turned s B a c t e;
}

pub bit_count-hold : (s : Bool) (B : ℕ) → BitCountLaws B (operations s B)
bit_count-hold s B = record {
  ones_law = λ x a e. ones-is _ _ _ e;
  ones_of_zero = λ a e. ap (count_of_ones B) e ∙ ones-of_zero _;
  ones_of_not = λ a n e. ones-of_not _ _ _ _ e;
  ones_of_rev = λ a n e. ones-of_reversed _ _ _ _ e;
  ones_of_rotl = λ a t n e. ones-of_turned s B a t n e;
  leading_law = λ x a b e. leading_run-is _ _ _ _ e;
  leading_ones_of_not = λ a n e. leading_ones-of_not _ _ _ _ e;
  leading_zeros_of_not = λ a n e. leading_zeros-of_not _ _ _ _ e;
  trailing_law = λ x a b e. trailing_run-is _ _ _ _ e;
  trailing_ones_of_not = λ a n e. trailing_ones-of_not _ _ _ _ e;
  trailing_zeros_of_not = λ a n e. trailing_zeros-of_not _ _ _ _ e;
  leading_of_rev = λ a b n e. leading_run-of_reversed _ _ _ _ _ e;
  trailing_of_rev = λ a b n e. trailing_run-of_reversed _ _ _ _ _ e;
}

pub wrapping-hold : (s : Bool) (B : ℕ) (valid : Type 0) (some : valid → 1 ≤ B) → WrappingLaws s B valid (λ x. x) (not_gives s B) (sub_gives s B) (operations s B)
wrapping-hold s B valid some = record {
  sum_law = λ x y. refl;
  sum_fits = λ a b h. sum-own _ _ _ _ (some h);
  sum_commutes = λ a b h. wrapped_sum-commutes _ _ _ _ (some h);
  sum_associates = λ a b c d h e. sum-again _ _ _ _ _ _ (some h) e;
  sum_zero = λ a b h e. sum-with_zero _ _ _ _ (some h) e;
  difference_law = λ x y. refl;
  difference_fits = λ a b h. difference-own _ _ _ _ (some h);
  difference_of_sum = λ a b c d h e f. difference-after_sum _ _ _ _ _ _ (some h) e f;
  sum_of_difference = λ a b c d h e f. sum-after_difference _ _ _ _ _ _ (some h) e f;
  sum_to_difference = λ a b c d h e f. sum-to_difference_of _ _ _ _ _ _ (some h) e f;
  difference_twice = λ a b c d h e f. difference-again _ _ _ _ _ _ (some h) e f;
  difference_none = λ a b h e. difference-alike _ _ _ _ (some h) e;
  difference_zero = λ a b h e. difference-with_zero _ _ _ _ (some h) e;
  sum_of_negated = λ a b c h e. sum-with_negated _ _ _ _ _ (some h) e;
  rest_law = λ a b c r h g v n e. rest-is_complement _ _ _ _ _ _ n (some v) e h.0 g.0 g.1;
  difference_of_ones = λ a b h e. difference-of_ones _ _ _ _ (some h) e;
  sum_of_disjoint = λ a b c h e f. sum-where_disjoint _ _ _ _ _ (some h) e f;
  product_law = λ x y. refl;
  product_fits = λ a b h. product-own _ _ _ _ (some h);
  product_commutes = λ a b h. wrapped_product-commutes _ _ _ _ (some h);
  product_associates = λ a b c d h e. product-again _ _ _ _ _ _ (some h) e;
  product_of_sum = λ a b c d h e. product-with_sum _ _ _ _ _ _ (some h) e;
  product_zero = λ a h. wrapped_product-zero _ _ _ (some h);
  shl_of_sum = λ a b c t h e. left-of_sum s B a b c t (some h) e;
}
