-- What `FixedWidth` states for generic code. The laws are over values, not over their numbers, because the search would try
-- a law on numbers at each number of equal value. A law that made terms of the kind that it applies to would keep the
-- search from ending, so only laws that swap operands do. That is why some laws name a value twice, by an equation.
-- GenericLawsHold.antt proves them.
use Rattle.std.specs.Prelude.{Bool, false, not, pos, true, unsigned_abs, ℕ, ℤ, ◌%◌, ◌&&◌, ◌+ℤ◌, ◌+◌, ◌-◌, ◌<◌, ◌^◌, ◌||◌, ◌≡◌, ◌≤◌, ◌≤ℤ◌, ◌⊎◌}
use Rattle.std.specs.Bool.{beq}
use Rattle.std.specs.List.{count_by, prefix_len, suffix_len}
use Rattle.std.specs.Ordering.{ord_max, ord_min}
use Rattle.std.specs.declared.cmp.Ordering.{Ordering}
use Rattle.arbitrary_base.specs.Range.{InRange, hi, lo}
use Rattle.arbitrary_base.specs.BitList.{bits}
use Rattle.arbitrary_base.specs.Operation.{bitwise_and, bitwise_not, bitwise_or, bitwise_xor, reversed, rotated_left, rotated_right, shifted_left, shifted_right, wrapped_difference, wrapped_product, wrapped_sum}
use Rattle.arbitrary_base.proofs.operations.Amount.{Amount, amount, none, rest}
use Rattle.arbitrary_base.proofs.operations.BitByBit.{Place}

-- the operations on values that the laws below are about
pub record Operations (S : Type 0) (B : ℕ) : Type 0 where
  pub bit : S → Place B → Bool
  pub value_of : ℤ → S
  -- whether a value is the number that its bits have, as each in range is; and the value of that number
  pub fits : S → Bool
  pub own : S → S
  pub and_of : S → S → S
  pub or_of : S → S → S
  pub xor_of : S → S → S
  pub not_of : S → S
  -- the sum of the least and the greatest number, as one word: the ends would split each search by the sign
  pub ends_sum : ℤ
  pub shl_of : S → Amount B → S
  pub shr_of : S → Amount B → S
  pub rotl_of : S → Amount B → S
  pub rev_of : S → S
  pub ones_of : S → ℕ
  pub leading_of : Bool → S → ℕ
  pub trailing_of : Bool → S → ℕ
  pub sum_of : S → S → S
  pub difference_of : S → S → S
  pub product_of : S → S → S

-- `& | ^ !` give the numbers that their words name
pub record BitwiseLaws {S : Type 0} (s : Bool) (B : ℕ) (number : S → ℤ) (both either apart : S → S → S → Type 0) (complement : S → S → Type 0) : Type 0 where
  pub and_law : (a b r : S) → both a b r → number r ≡ bitwise_and s B (number a) (number b)
  pub or_law : (a b r : S) → either a b r → number r ≡ bitwise_or s B (number a) (number b)
  pub xor_law : (a b r : S) → apart a b r → number r ≡ bitwise_xor s B (number a) (number b)
  pub complement_law : (a r : S) → complement a r → number r ≡ bitwise_not s B (number a)

-- values
pub record ValueLaws {S : Type 0} (s : Bool) (B : ℕ) (valid : Type 0) (number : S → ℤ) (eq : S → S → Bool) (cmp : S → S → Ordering) (op : Operations S B) : Type 0 where
  -- the lesser and the greater of two values, by bounds. As two laws they took a search of four values to its limits
  pub extremes_law : (a b : S) → let least = ord_min cmp a b in let most = ord_max cmp a b in
      (least ≡ least) × (most ≡ most) × (number least ≤ℤ number a) × (number least ≤ℤ number b) × (number a ≤ℤ number most) × (number b ≤ℤ number most)
  -- a value, its number and its bits
  pub value_law : (a : S) → (number a ≡ number a) × (op.value_of (number a) ≡ a)
  pub equal_law : (a b : S) → (eq a b ≡ eq a b) × (eq a b ≡ true → a ≡ b) × (a ≡ b → eq a b ≡ true)
  -- over the range that a call states: with the type's own sign and width, the search would open each range in sight
  pub fits_law : (a : S) (t : Bool) (n : ℕ) → valid → InRange t n (number a) → t ≡ s → n ≡ B → op.fits a ≡ true
  pub own_law : (a b : S) → b ≡ a → op.fits a ≡ true → op.own a ≡ b
  pub zero_fits : (a : S) → valid → a ≡ op.value_of (pos 0) → op.fits a ≡ true
  pub zero_bit : (a : S) (i : Place B) → a ≡ op.value_of (pos 0) → op.bit a i ≡ false
  pub differ_law : (a b : S) → op.fits a ≡ true → op.fits b ≡ true → (eq a b ≡ true) ⊎ ((i : Place B) × (op.bit a i ≡ not (op.bit b i)))

-- `& | ^ !` bit by bit
pub record BitLaws {S : Type 0} (s : Bool) (B : ℕ) (valid : Type 0) (number : S → ℤ) (both either apart : S → S → S → Type 0) (complement : S → S → Type 0) (op : Operations S B) : Type 0 where
  -- `&`
  pub and_gives : (a b r : S) → both a b r → (r ≡ op.and_of a b) × (op.fits a ≡ true) × (op.fits b ≡ true)
  pub and_at_most_left : (a b r : S) → both a b r → s ≡ false → number r ≤ℤ number a
  pub and_at_most_right : (a b r : S) → both a b r → s ≡ false → number r ≤ℤ number b
  -- 1 as a mask leaves the remainder by 2
  pub and_one : (a b r : S) → both a b r → valid → number b ≡ pos 1 → number r ≡ pos (unsigned_abs (number a) % 2)
  pub and_fits : (a b : S) → op.fits (op.and_of a b) ≡ true
  pub and_bit : (a b : S) (i : Place B) → op.bit (op.and_of a b) i ≡ (op.bit a i && op.bit b i)
  pub and_number : (x y : ℤ) → bitwise_and s B x y ≡ number (op.and_of (op.value_of x) (op.value_of y))
  pub and_commutes : (a b : S) → op.and_of a b ≡ op.and_of b a
  pub and_itself : (a b : S) → b ≡ a → op.fits a ≡ true → op.and_of a b ≡ a
  -- `|`
  pub or_gives : (a b r : S) → either a b r → (r ≡ op.or_of a b) × (op.fits a ≡ true) × (op.fits b ≡ true)
  pub or_at_least_left : (a b r : S) → either a b r → s ≡ false → number a ≤ℤ number r
  pub or_at_least_right : (a b r : S) → either a b r → s ≡ false → number b ≤ℤ number r
  pub or_fits : (a b : S) → op.fits (op.or_of a b) ≡ true
  pub or_bit : (a b : S) (i : Place B) → op.bit (op.or_of a b) i ≡ (op.bit a i || op.bit b i)
  pub or_number : (x y : ℤ) → bitwise_or s B x y ≡ number (op.or_of (op.value_of x) (op.value_of y))
  pub or_commutes : (a b : S) → op.or_of a b ≡ op.or_of b a
  pub or_associates : (a b c d : S) → d ≡ op.or_of a b → op.or_of d c ≡ op.or_of a (op.or_of b c)
  -- `^`
  pub xor_gives : (a b r : S) → apart a b r → (r ≡ op.xor_of a b) × (op.fits a ≡ true) × (op.fits b ≡ true)
  pub xor_fits : (a b : S) → op.fits (op.xor_of a b) ≡ true
  pub xor_bit : (a b : S) (i : Place B) → op.bit (op.xor_of a b) i ≡ (not (beq (op.bit a i) (op.bit b i)))
  pub xor_number : (x y : ℤ) → bitwise_xor s B x y ≡ number (op.xor_of (op.value_of x) (op.value_of y))
  pub xor_commutes : (a b : S) → op.xor_of a b ≡ op.xor_of b a
  pub xor_twice : (a b c : S) → c ≡ op.xor_of a b → op.fits a ≡ true → op.xor_of c b ≡ a
  pub xor_none : (a b : S) → (op.xor_of a b ≡ op.xor_of a b) × (op.fits a ≡ true → op.fits b ≡ true → op.xor_of a b ≡ op.value_of (pos 0) → a ≡ b)
  -- `!`
  pub complement_gives : (a r : S) → complement a r → (r ≡ op.not_of a) × (op.fits a ≡ true)
  -- the number has a name of its own, or the sum of any two numbers in sight would fire the law
  pub not_mirrors : (a r : S) → complement a r → valid → (x : ℤ) × (x ≡ number a) × (x +ℤ number r ≡ op.ends_sum)
  pub not_of_greatest : (a r : S) → complement a r → valid → a ≡ op.value_of (hi s B) → number r ≡ lo s B
  pub not_of_least : (a r : S) → complement a r → valid → a ≡ op.value_of (lo s B) → number r ≡ hi s B
  pub not_fits : (a : S) → op.fits (op.not_of a) ≡ true
  pub not_bit : (a : S) (i : Place B) (b : Bool) → b ≡ op.bit a i → op.bit (op.not_of a) i ≡ not b
  pub not_number : (x : ℤ) (a : S) → a ≡ op.value_of x → bitwise_not s B x ≡ number (op.not_of a)
  pub not_twice : (a b : S) → b ≡ op.not_of a → op.fits a ≡ true → op.not_of b ≡ a
  -- one operator of another
  pub or_of_and : (a b c d : S) → d ≡ op.and_of b c → op.or_of a d ≡ op.and_of (op.or_of a b) (op.or_of a c)
  pub not_of_and : (a b c : S) → c ≡ op.and_of a b → op.not_of c ≡ op.or_of (op.not_of a) (op.not_of b)
  pub not_of_or : (a b c : S) → c ≡ op.or_of a b → op.not_of c ≡ op.and_of (op.not_of a) (op.not_of b)

-- shifts, rotations and the reversal
pub record MovementLaws {S : Type 0} (s : Bool) (B : ℕ) (valid : Type 0) (number : S → ℤ) (op : Operations S B) : Type 0 where
  -- shifts to the left
  pub shl_law : (x : ℤ) (m : ℕ) → valid → shifted_left s B x m ≡ number (op.shl_of (op.value_of x) (amount B m))
  -- the amount of a call is a remainder by the width
  pub one_moved : (x : ℤ) (m k : ℕ) → valid → s ≡ false → x ≡ pos 1 → m ≡ k % B → k < B → (shifted_left s B x m ≡ pos (2 ^ k)) × (1 ≤ 2 ^ k) × (2 ^ k < 2 ^ B)
  pub shl_fits : (a : S) (t : Amount B) → op.fits (op.shl_of a t) ≡ true
  pub shl_none : (a b : S) → b ≡ op.own a → op.shl_of a (none B) ≡ b
  pub shl_zero : (a : S) (t : Amount B) → valid → a ≡ op.value_of (pos 0) → op.shl_of a t ≡ a
  pub shl_of_and : (a b c : S) (t : Amount B) → c ≡ op.and_of a b → op.shl_of c t ≡ op.and_of (op.shl_of a t) (op.shl_of b t)
  pub shl_of_or : (a b c : S) (t : Amount B) → c ≡ op.or_of a b → op.shl_of c t ≡ op.or_of (op.shl_of a t) (op.shl_of b t)
  pub shl_of_xor : (a b c : S) (t : Amount B) → c ≡ op.xor_of a b → op.shl_of c t ≡ op.xor_of (op.shl_of a t) (op.shl_of b t)
  -- shifts to the right
  pub shr_law : (x : ℤ) (m : ℕ) → valid → shifted_right s B x m ≡ number (op.shr_of (op.value_of x) (amount B m))
  pub shr_fits : (a : S) (t : Amount B) → op.fits (op.shr_of a t) ≡ true
  pub shr_none : (a b : S) → b ≡ op.own a → op.shr_of a (none B) ≡ b
  pub shr_zero : (a : S) (t : Amount B) → valid → a ≡ op.value_of (pos 0) → op.shr_of a t ≡ a
  pub shr_of_and : (a b c : S) (t : Amount B) → c ≡ op.and_of a b → op.shr_of c t ≡ op.and_of (op.shr_of a t) (op.shr_of b t)
  pub shr_of_or : (a b c : S) (t : Amount B) → c ≡ op.or_of a b → op.shr_of c t ≡ op.or_of (op.shr_of a t) (op.shr_of b t)
  pub shr_of_xor : (a b c : S) (t : Amount B) → c ≡ op.xor_of a b → op.shr_of c t ≡ op.xor_of (op.shr_of a t) (op.shr_of b t)
  pub shl_of_shr : (a c : S) (t : Amount B) → c ≡ op.shr_of a t → op.shl_of c t ≡ op.and_of a (op.shl_of (op.not_of (op.value_of (pos 0))) t)
  -- rotations
  pub rotl_law : (x : ℤ) (m : ℕ) → rotated_left s B x m ≡ number (op.rotl_of (op.value_of x) (amount B m))
  pub rotr_law : (x : ℤ) (m : ℕ) → rotated_right s B x m ≡ number (op.rotl_of (op.value_of x) (rest B (amount B m)))
  pub rotl_fits : (a : S) (t : Amount B) → op.fits (op.rotl_of a t) ≡ true
  pub rotl_none : (a b : S) → b ≡ op.own a → op.rotl_of a (none B) ≡ b
  pub rotl_zero : (a : S) (t : Amount B) → valid → a ≡ op.value_of (pos 0) → op.rotl_of a t ≡ a
  pub rotl_ones : (a : S) (t : Amount B) → valid → a ≡ op.not_of (op.value_of (pos 0)) → op.rotl_of a t ≡ a
  pub no_amount : (m : ℕ) → m ≡ 0 → amount B m ≡ none B
  pub rotl_of_and : (a b c : S) (t : Amount B) → c ≡ op.and_of a b → op.rotl_of c t ≡ op.and_of (op.rotl_of a t) (op.rotl_of b t)
  pub rotl_of_or : (a b c : S) (t : Amount B) → c ≡ op.or_of a b → op.rotl_of c t ≡ op.or_of (op.rotl_of a t) (op.rotl_of b t)
  pub rotl_of_xor : (a b c : S) (t : Amount B) → c ≡ op.xor_of a b → op.rotl_of c t ≡ op.xor_of (op.rotl_of a t) (op.rotl_of b t)
  pub rotl_of_not : (a c : S) (t : Amount B) → c ≡ op.not_of a → op.rotl_of c t ≡ op.not_of (op.rotl_of a t)
  -- the reversal
  pub rev_law : (x : ℤ) (a : S) → a ≡ op.value_of x → reversed s B x ≡ number (op.rev_of a)
  pub rev_fits : (a : S) → op.fits (op.rev_of a) ≡ true
  pub rev_twice : (a b c : S) → b ≡ op.rev_of a → c ≡ op.own a → op.rev_of b ≡ c
  pub rev_zero : (a : S) → valid → a ≡ op.value_of (pos 0) → op.rev_of a ≡ a
  pub rev_ones : (a : S) → valid → a ≡ op.not_of (op.value_of (pos 0)) → op.rev_of a ≡ a
  pub rev_of_and : (a b c : S) → c ≡ op.and_of a b → op.rev_of c ≡ op.and_of (op.rev_of a) (op.rev_of b)
  pub rev_of_or : (a b c : S) → c ≡ op.or_of a b → op.rev_of c ≡ op.or_of (op.rev_of a) (op.rev_of b)
  pub rev_of_xor : (a b c : S) → c ≡ op.xor_of a b → op.rev_of c ≡ op.xor_of (op.rev_of a) (op.rev_of b)
  pub rev_of_not : (a c : S) → c ≡ op.not_of a → op.rev_of c ≡ op.not_of (op.rev_of a)
  pub rev_of_rotl : (a c : S) (t : Amount B) → c ≡ op.rotl_of a t → op.rev_of c ≡ op.rotl_of (op.rev_of a) (rest B t)

-- counts of bits
pub record BitCountLaws {S : Type 0} (B : ℕ) (op : Operations S B) : Type 0 where
  -- how many bits are one
  pub ones_law : (x : ℤ) (a : S) → a ≡ op.value_of x → count_by (λ b. b) (bits B x) ≡ op.ones_of a
  pub ones_of_zero : (a : S) → a ≡ op.value_of (pos 0) → op.ones_of a ≡ 0
  pub ones_of_not : (a : S) (n : ℕ) → n ≡ op.ones_of a → op.ones_of (op.not_of a) ≡ B - n
  pub ones_of_rev : (a : S) (n : ℕ) → n ≡ op.ones_of a → op.ones_of (op.rev_of a) ≡ n
  pub ones_of_rotl : (a : S) (t : Amount B) (n : ℕ) → n ≡ op.ones_of a → op.ones_of (op.rotl_of a t) ≡ n
  -- how many bits at an end are alike
  pub leading_law : (x : ℤ) (a : S) (b : Bool) → a ≡ op.value_of x → suffix_len (beq b) (bits B x) ≡ op.leading_of b a
  pub leading_ones_of_not : (a : S) (n : ℕ) → n ≡ op.leading_of false a → op.leading_of true (op.not_of a) ≡ n
  pub leading_zeros_of_not : (a : S) (n : ℕ) → n ≡ op.leading_of true a → op.leading_of false (op.not_of a) ≡ n
  pub trailing_law : (x : ℤ) (a : S) (b : Bool) → a ≡ op.value_of x → prefix_len (beq b) (bits B x) ≡ op.trailing_of b a
  pub trailing_ones_of_not : (a : S) (n : ℕ) → n ≡ op.trailing_of false a → op.trailing_of true (op.not_of a) ≡ n
  pub trailing_zeros_of_not : (a : S) (n : ℕ) → n ≡ op.trailing_of true a → op.trailing_of false (op.not_of a) ≡ n
  pub leading_of_rev : (a : S) (b : Bool) (n : ℕ) → n ≡ op.trailing_of b a → op.leading_of b (op.rev_of a) ≡ n
  pub trailing_of_rev : (a : S) (b : Bool) (n : ℕ) → n ≡ op.leading_of b a → op.trailing_of b (op.rev_of a) ≡ n

-- sums, differences and products that wrap
pub record WrappingLaws {S : Type 0} (s : Bool) (B : ℕ) (valid : Type 0) (number : S → ℤ) (gives_complement : S → S → Type 0) (gives_difference : S → S → S → Type 0) (op : Operations S B) : Type 0 where
  -- sums
  pub sum_law : (x y : ℤ) → wrapped_sum s B x y ≡ number (op.sum_of (op.value_of x) (op.value_of y))
  pub sum_fits : (a b : S) → valid → op.fits (op.sum_of a b) ≡ true
  pub sum_commutes : (a b : S) → valid → op.sum_of a b ≡ op.sum_of b a
  pub sum_associates : (a b c d : S) → valid → d ≡ op.sum_of a b → op.sum_of d c ≡ op.sum_of a (op.sum_of b c)
  pub sum_zero : (a b : S) → valid → b ≡ op.own a → op.sum_of a (op.value_of (pos 0)) ≡ b
  -- differences
  pub difference_law : (x y : ℤ) → wrapped_difference s B x y ≡ number (op.difference_of (op.value_of x) (op.value_of y))
  pub difference_fits : (a b : S) → valid → op.fits (op.difference_of a b) ≡ true
  pub difference_of_sum : (a b c d : S) → valid → c ≡ op.sum_of a b → d ≡ op.own a → op.difference_of c b ≡ d
  pub sum_of_difference : (a b c d : S) → valid → c ≡ op.difference_of a b → d ≡ op.own a → op.sum_of c b ≡ d
  pub sum_to_difference : (a b c d : S) → valid → c ≡ op.difference_of b a → d ≡ op.own b → op.sum_of a c ≡ d
  pub difference_twice : (a b c d : S) → valid → c ≡ op.difference_of a b → d ≡ op.own b → op.difference_of a c ≡ d
  pub difference_none : (a b : S) → valid → b ≡ a → op.difference_of a b ≡ op.value_of (pos 0)
  pub difference_zero : (a b : S) → valid → b ≡ op.own a → op.difference_of a (op.value_of (pos 0)) ≡ b
  pub sum_of_negated : (a b c : S) → valid → c ≡ op.difference_of (op.value_of (pos 0)) b → op.sum_of a c ≡ op.difference_of a b
  -- the greatest number minus another is its complement, for numbers whose complement is in sight
  pub rest_law : (a b c r : S) → gives_difference a b r → gives_complement b c → valid → s ≡ false → number a ≡ hi s B → r ≡ c
  pub difference_of_ones : (a b : S) → valid → b ≡ op.not_of (op.value_of (pos 0)) → op.difference_of b a ≡ op.not_of a
  pub sum_of_disjoint : (a b c : S) → valid → op.and_of a b ≡ op.value_of (pos 0) → c ≡ op.sum_of a b → c ≡ op.or_of a b
  -- products
  pub product_law : (x y : ℤ) → wrapped_product s B x y ≡ number (op.product_of (op.value_of x) (op.value_of y))
  pub product_fits : (a b : S) → valid → op.fits (op.product_of a b) ≡ true
  pub product_commutes : (a b : S) → valid → op.product_of a b ≡ op.product_of b a
  pub product_associates : (a b c d : S) → valid → d ≡ op.product_of a b → op.product_of d c ≡ op.product_of a (op.product_of b c)
  pub product_of_sum : (a b c d : S) → valid → d ≡ op.sum_of b c → op.product_of a d ≡ op.sum_of (op.product_of a b) (op.product_of a c)
  pub product_zero : (a : S) → valid → op.product_of a (op.value_of (pos 0)) ≡ op.value_of (pos 0)
  pub shl_of_sum : (a b c : S) (t : Amount B) → valid → c ≡ op.sum_of a b → op.shl_of c t ≡ op.sum_of (op.shl_of a t) (op.shl_of b t)

-- ---- groups of further laws. A group is closed and costs the search nothing until a file opens it by
-- `#![tactic(auto, unfolding(arbitrary_int::specs::GenericLaws::SumLaws))]`. It names no value, because the search would
-- try laws of 0 at it.

-- sums and differences that wrap
unfoldable pub SumLaws : {S : Type 0} (valid : Type 0) (fits : S → Bool) (sum difference : S → S → S) → Type 0
SumLaws {S} valid fits sum difference =
    ((a b c : S) → valid → c ≡ sum a b → fits b ≡ true → difference c a ≡ b)
    × ((a b c d : S) → valid → d ≡ difference a b → difference d c ≡ difference a (sum b c))
    × ((a b c d : S) → valid → d ≡ difference a b → difference d c ≡ difference (difference a c) b)

-- sums and differences of bits, wrapped
unfoldable pub BitSumLaws : {S : Type 0} (valid : Type 0) (value_of : ℤ → S) (both either apart : S → S → S) (complement : S → S) (sum difference : S → S → S) → Type 0
BitSumLaws {S} valid value_of both either apart complement sum difference =
    ((a b c : S) → valid → c ≡ both a b → sum c (either a b) ≡ sum a b)
    × ((a b c : S) → valid → c ≡ either a b → sum c (both a b) ≡ sum a b)
    × ((a b c d : S) → valid → c ≡ both a b → d ≡ either a b → difference d c ≡ apart a b)
    × ((a b : S) → valid → b ≡ complement a → sum a b ≡ complement (value_of (pos 0)))
    × ((a b c : S) → valid → b ≡ complement a → c ≡ value_of (pos 1) → sum b c ≡ difference (value_of (pos 0)) a)
    × ((a b c : S) → valid → c ≡ either a b → difference c a ≡ both b (complement a))

-- complements of sums and differences that wrap
unfoldable pub ComplementLaws : {S : Type 0} (valid : Type 0) (complement : S → S) (sum difference : S → S → S) → Type 0
ComplementLaws {S} valid complement sum difference =
    ((a b c : S) → valid → c ≡ difference a b → complement c ≡ sum (complement a) b)
    × ((a b c : S) → valid → c ≡ sum a b → complement c ≡ difference (complement a) b)

-- products of differences, wrapped, and of shifted values
unfoldable pub ProductLaws : {S : Type 0} (B : ℕ) (valid : Type 0) (left : S → Amount B → S) (difference product : S → S → S) → Type 0
ProductLaws {S} B valid left difference product =
    ((a b c d : S) → valid → d ≡ difference b c → product a d ≡ difference (product a b) (product a c))
    × ((a b c : S) (m k : ℕ) → valid → m ≡ k % B → c ≡ difference a b → left c (amount B m) ≡ difference (left a (amount B m)) (left b (amount B m)))
    × ((a b c : S) (m k : ℕ) → valid → m ≡ k % B → c ≡ product a b → left c (amount B m) ≡ product (left a (amount B m)) b)

-- shifts with `&`, `!` and the reversal
unfoldable pub MovedBitLaws : {S : Type 0} (signed : Bool) (B : ℕ) (valid : Type 0) (fits : S → Bool) (value_of : ℤ → S) (left right : S → Amount B → S) (both : S → S → S) (complement back : S → S) → Type 0
MovedBitLaws {S} signed B valid fits value_of left right both complement back =
    ((a b : S) (m k : ℕ) → valid → signed ≡ false → m ≡ k % B → b ≡ left a (amount B m) → right b (amount B m) ≡ both a (right (complement (value_of (pos 0))) (amount B m)))
    × ((a b : S) (m k : ℕ) → valid → signed ≡ false → m ≡ k % B → b ≡ left a (amount B m) → back b ≡ right (back a) (amount B m))
    × ((a b : S) (m k : ℕ) → valid → signed ≡ true → fits a ≡ true → m ≡ k % B → b ≡ complement a → right b (amount B m) ≡ complement (right a (amount B m)))

-- how many bits are one
unfoldable pub CountLaws : {S : Type 0} (both either : S → S → S) (count : S → ℕ) → Type 0
CountLaws {S} both either count =
    ((a b : S) → count (both a b) + count (either a b) ≡ count a + count b)
    × ((a b : S) → count (both a b) ≤ count a)

-- the order of complements
unfoldable pub OrderLaws : {S R : Type 0} (valid : Type 0) (fits : S → Bool) (complement : S → S) (order : S → S → R) → Type 0
OrderLaws {S} {R} valid fits complement order =
    (a b : S) → valid → fits a ≡ true → fits b ≡ true → order (complement a) (complement b) ≡ order b a
