-- The algebra of `&`, `|`, `^` and `!` on the numbers of a type: they commute, associate, distribute and absorb,
-- also with 0 and with the number whose bits are all one. Parts.antt states one operation by others.
-- Bitwise.antt of `arbitrary_base` has four laws that the calls need.
use Rattle.std.specs.Prelude.{◌≡◌, ℕ, ℤ, Bool, true, false, List, pos, negsuc, ◌≤◌, ◌^◌, ◌-ℤ◌}
use Rattle.std.proofs.Common.{sym, ap, ◌∙◌, arith}
use Rattle.std.proofs.lemmas.Int.{ints}
use Rattle.std.proofs.lemmas.Nat.{pow_pos}
use Rattle.arbitrary_base.specs.Range.{InRange}
use Rattle.arbitrary_base.specs.BitList.{bits, bits_xor, val}
use Rattle.arbitrary_base.specs.Operation.{bitwise_and, bitwise_or, bitwise_xor, bitwise_not}
use Rattle.arbitrary_base.proofs.operations.Definition.{not-is, xor-is, by-bits, of-bits, bits-highest, bits-minus_one, bits-not, bits-not_zero, minus_one-in_range}
use Rattle.arbitrary_base.proofs.operations.Expression.{all, apart, both, complement, either, first, none, same, second, third}

-- ---- any numbers

module _ (s : Bool) (B : ℕ) (x y z : ℤ) where
  pub bitwise_and-associates : bitwise_and s B (bitwise_and s B x y) z ≡ bitwise_and s B x (bitwise_and s B y z)
  bitwise_and-associates = same s B x y z (both (both first second) third) (both first (both second third)) (λ a b c. grind arith) tt tt

  pub bitwise_xor-associates : bitwise_xor s B (bitwise_xor s B x y) z ≡ bitwise_xor s B x (bitwise_xor s B y z)
  bitwise_xor-associates = same s B x y z (apart (apart first second) third) (apart first (apart second third)) (λ a b c. grind arith) tt tt

  pub and-distributes_or : bitwise_and s B x (bitwise_or s B y z) ≡ bitwise_or s B (bitwise_and s B x y) (bitwise_and s B x z)
  and-distributes_or =
      same s B x y z (both first (either second third)) (either (both first second) (both first third)) (λ a b c. grind arith) tt tt

  pub and-distributes_xor : bitwise_and s B x (bitwise_xor s B y z) ≡ bitwise_xor s B (bitwise_and s B x y) (bitwise_and s B x z)
  and-distributes_xor =
      same s B x y z (both first (apart second third)) (apart (both first second) (both first third)) (λ a b c. grind arith) tt tt

pub not-xor_left : (s : Bool) (B : ℕ) (x y : ℤ) → bitwise_not s B (bitwise_xor s B x y) ≡ bitwise_xor s B (bitwise_not s B x) y
not-xor_left s B x y = same s B x y y (complement (apart first second)) (apart (complement first) second) (λ a b c. grind arith) tt tt

-- ---- a number of the type, and 0

module _ (s : Bool) (B : ℕ) (x : ℤ) (h : 1 ≤ B) where
  pub bitwise_and-zero : bitwise_and s B x (pos 0) ≡ pos 0
  bitwise_and-zero = same s B x x x (both first none) none (λ a b c. grind arith) tt h

  pub bitwise_xor-same : bitwise_xor s B x x ≡ pos 0
  bitwise_xor-same = same s B x x x (apart first first) none (λ a b c. grind arith) tt h

  pub bitwise_and-complement : bitwise_and s B x (bitwise_not s B x) ≡ pos 0
  bitwise_and-complement = same s B x x x (both first (complement first)) none (λ a b c. grind arith) tt h

  module _ (f : InRange s B x) where
    pub bitwise_and-same : bitwise_and s B x x ≡ x
    bitwise_and-same = same s B x x x (both first first) first (λ a b c. grind arith) tt (of-bits s B x h f)

    pub bitwise_or-same : bitwise_or s B x x ≡ x
    bitwise_or-same = same s B x x x (either first first) first (λ a b c. grind arith) tt (of-bits s B x h f)

    pub bitwise_or-zero : bitwise_or s B x (pos 0) ≡ x
    bitwise_or-zero = same s B x x x (either first none) first (λ a b c. grind arith) tt (of-bits s B x h f)

    pub bitwise_xor-zero : bitwise_xor s B x (pos 0) ≡ x
    bitwise_xor-zero = same s B x x x (apart first none) first (λ a b c. grind arith) tt (of-bits s B x h f)

    pub bitwise_not-twice : bitwise_not s B (bitwise_not s B x) ≡ x
    bitwise_not-twice = same s B x x x (complement (complement first)) first (λ a b c. grind arith) tt (of-bits s B x h f)

    pub bitwise_and-not_zero : bitwise_and s B x (bitwise_not s B (pos 0)) ≡ x
    bitwise_and-not_zero = same s B x x x (both first all) first (λ a b c. grind arith) tt (of-bits s B x h f)

module _ (s : Bool) (B : ℕ) (x y : ℤ) (h : 1 ≤ B) (f : InRange s B x) where
  pub bitwise_xor-undoes : bitwise_xor s B (bitwise_xor s B x y) y ≡ x
  bitwise_xor-undoes = same s B x y y (apart (apart first second) second) first (λ a b c. grind arith) tt (of-bits s B x h f)

  pub and-absorbs : bitwise_and s B x (bitwise_or s B x y) ≡ x
  and-absorbs = same s B x y y (both first (either first second)) first (λ a b c. grind arith) tt (of-bits s B x h f)

  pub or-absorbs : bitwise_or s B x (bitwise_and s B x y) ≡ x
  or-absorbs = same s B x y y (either first (both first second)) first (λ a b c. grind arith) tt (of-bits s B x h f)

pub bitwise_xor-equal : (s : Bool) (B : ℕ) (x y : ℤ) → 1 ≤ B → InRange s B x → InRange s B y → bitwise_xor s B x y ≡ pos 0 → x ≡ y
bitwise_xor-equal s B x y h f g e =
    sym (bitwise_xor-undoes s B x y h f) ∙ ap (λ (z : ℤ). bitwise_xor s B z y) e
    ∙ same s B y y y (apart none first) first (λ a b c. grind arith) tt (of-bits s B y h g)

-- ---- the number whose bits are all one: the complement of 0, the greatest of a type with no sign, -1 of one with a sign

module _ (s : Bool) (B : ℕ) (x : ℤ) where
  pub bitwise_or-not_zero : bitwise_or s B x (bitwise_not s B (pos 0)) ≡ bitwise_not s B (pos 0)
  bitwise_or-not_zero = same s B x x x (either first all) all (λ a b c. grind arith) tt tt

  pub bitwise_xor-not_zero : bitwise_xor s B x (bitwise_not s B (pos 0)) ≡ bitwise_not s B x
  bitwise_xor-not_zero = same s B x x x (apart first all) (complement first) (λ a b c. grind arith) tt tt

  pub bitwise_or-complement : bitwise_or s B x (bitwise_not s B x) ≡ bitwise_not s B (pos 0)
  bitwise_or-complement = same s B x x x (either first (complement first)) all (λ a b c. grind arith) tt tt

pub bitwise_not-zero : (B : ℕ) → 1 ≤ B → bitwise_not false B (pos 0) ≡ pos (2 ^ B) -ℤ pos 1
bitwise_not-zero B h =
    let p = pow_pos B in
    let f : InRange false B (pos (2 ^ B) -ℤ pos 1) = record { low = omega (arith, ints); high = omega (arith, ints) } in
    by-bits _ _ _ _ _ (not-is false B (pos 0)) (of-bits false B _ h f) (sym (bits-not false B (pos 0)) ∙ bits-not_zero false B ∙ sym (bits-highest B))

pub bitwise_not-zero_signed : (B : ℕ) → 1 ≤ B → bitwise_not true B (pos 0) ≡ negsuc 0
bitwise_not-zero_signed B h =
    by-bits _ _ _ _ _ (not-is true B (pos 0)) (of-bits true B _ h (minus_one-in_range B)) (sym (bits-not true B (pos 0)) ∙ bits-not_zero true B ∙ sym (bits-minus_one B))

module _ (B : ℕ) (x y : ℤ) (h : 1 ≤ B) where
  greatest : y ≡ pos (2 ^ B) -ℤ pos 1 → y ≡ bitwise_not false B (pos 0)
  greatest e = e ∙ sym (bitwise_not-zero B h)

  pub bitwise_and-highest : InRange false B x → y ≡ pos (2 ^ B) -ℤ pos 1 → bitwise_and false B x y ≡ x
  bitwise_and-highest f e = ap (bitwise_and false B x) (greatest e) ∙ bitwise_and-not_zero false B x h f

  pub bitwise_or-highest : InRange false B y → y ≡ pos (2 ^ B) -ℤ pos 1 → bitwise_or false B x y ≡ y
  bitwise_or-highest f e = ap (bitwise_or false B x) (greatest e) ∙ bitwise_or-not_zero false B x ∙ sym (greatest e)

-- also at a width of 0
xor-by_bits : (s : Bool) (B : ℕ) (x y z : ℤ) → bits B y ≡ bits B z → bitwise_xor s B x y ≡ bitwise_xor s B x z
xor-by_bits s B x y z e = xor-is s B x y ∙ ap (λ (l : List Bool). val s (bits_xor (bits B x) l)) e ∙ sym (xor-is s B x z)

pub bitwise_xor-highest : (B : ℕ) (x y : ℤ) → y ≡ pos (2 ^ B) -ℤ pos 1 → bitwise_xor false B x y ≡ bitwise_not false B x
bitwise_xor-highest B x y e =
    xor-by_bits false B x y _ (ap (bits B) e ∙ bits-highest B ∙ sym (bits-not_zero false B)) ∙ bitwise_xor-not_zero false B x

module _ (B : ℕ) (x : ℤ) (h : 1 ≤ B) where
  pub bitwise_and-minus_one : InRange true B x → bitwise_and true B x (negsuc 0) ≡ x
  bitwise_and-minus_one f = ap (bitwise_and true B x) (sym (bitwise_not-zero_signed B h)) ∙ bitwise_and-not_zero true B x h f

  pub bitwise_or-minus_one : bitwise_or true B x (negsuc 0) ≡ negsuc 0
  bitwise_or-minus_one = ap (bitwise_or true B x) (sym (bitwise_not-zero_signed B h)) ∙ bitwise_or-not_zero true B x ∙ bitwise_not-zero_signed B h

pub bitwise_xor-minus_one : (B : ℕ) (x : ℤ) → bitwise_xor true B x (negsuc 0) ≡ bitwise_not true B x
bitwise_xor-minus_one B x = xor-by_bits true B x _ _ (bits-minus_one B ∙ sym (bits-not_zero true B)) ∙ bitwise_xor-not_zero true B x
