-- An identity of `&`, `|`, `^` and `!` holds for numbers if it holds for single bits. An expression of these
-- over three operands is data with a meaning over bits, one over lists and one over numbers. `same` needs the
-- eight cases of the bits alone.
use Rattle.std.specs.Prelude.{◌≡◌, ◌≤◌, ℕ, ℤ, zero, suc, Bool, true, false, not, ◌&&◌, ◌||◌, List, [], ◌∷◌, length, map, pos, replicate}
use Rattle.std.specs.Bool.{beq}
use Rattle.std.proofs.Common.{refl, sym, ap, ap₂, ◌∙◌, arith}
use Rattle.arbitrary_base.specs.BitList.{bits, val, bits_and, bits_or, bits_xor}
use Rattle.arbitrary_base.specs.Operation.{bitwise_and, bitwise_not, bitwise_or, bitwise_xor}
use Rattle.arbitrary_base.proofs.bit_lists.UnsignedNumber.{length-bits}
use Rattle.arbitrary_base.proofs.operations.Definition.{and-is, or-is, xor-is, not-is, bits-and, bits-or, bits-xor, bits-not, bits-not_zero, bits-zero, zero-is}

pub data Expression : Type 0 where
  first : Expression
  second : Expression
  third : Expression
  none : Expression
  all : Expression
  complement : Expression → Expression
  both : Expression → Expression → Expression
  either : Expression → Expression → Expression
  apart : Expression → Expression → Expression

-- over single bits
abbrev pub item : Expression → Bool → Bool → Bool → Bool
item first a b c = a
item second a b c = b
item third a b c = c
item none a b c = false
item all a b c = true
item (complement e) a b c = not (item e a b c)
item (both e u) a b c = item e a b c && item u a b c
item (either e u) a b c = item e a b c || item u a b c
item (apart e u) a b c = not (beq (item e a b c) (item u a b c))

-- over lists of one length
abbrev list : Expression → ℕ → List Bool → List Bool → List Bool → List Bool
list first B l m n = l
list second B l m n = m
list third B l m n = n
list none B l m n = replicate B false
list all B l m n = replicate B true
list (complement e) B l m n = map not (list e B l m n)
list (both e u) B l m n = bits_and (list e B l m n) (list u B l m n)
list (either e u) B l m n = bits_or (list e B l m n) (list u B l m n)
list (apart e u) B l m n = bits_xor (list e B l m n) (list u B l m n)

-- over the numbers of a type
abbrev pub number : Expression → Bool → ℕ → ℤ → ℤ → ℤ → ℤ
number first s B x y z = x
number second s B x y z = y
number third s B x y z = z
number none s B x y z = pos 0
number all s B x y z = bitwise_not s B (pos 0)
number (complement e) s B x y z = bitwise_not s B (number e s B x y z)
number (both e u) s B x y z = bitwise_and s B (number e s B x y z) (number u s B x y z)
number (either e u) s B x y z = bitwise_or s B (number e s B x y z) (number u s B x y z)
number (apart e u) s B x y z = bitwise_xor s B (number e s B x y z) (number u s B x y z)

-- what shows that it is the number of its own bits: of an operation nothing
abbrev pub Owned : Expression → Bool → ℕ → ℤ → ℤ → ℤ → Type 0
Owned first s B x y z = x ≡ val s (bits B x)
Owned second s B x y z = y ≡ val s (bits B y)
Owned third s B x y z = z ≡ val s (bits B z)
Owned none s B x y z = 1 ≤ B
Owned all s B x y z = Unit {0}
Owned (complement e) s B x y z = Unit {0}
Owned (both e u) s B x y z = Unit {0}
Owned (either e u) s B x y z = Unit {0}
Owned (apart e u) s B x y z = Unit {0}

-- ---- of lists

list-cons : (e : Expression) (B : ℕ) (a b c : Bool) (l m n : List Bool) → list e (suc B) (a ∷ l) (b ∷ m) (c ∷ n) ≡ item e a b c ∷ list e B l m n
list-cons first B a b c l m n = refl
list-cons second B a b c l m n = refl
list-cons third B a b c l m n = refl
list-cons none B a b c l m n = refl
list-cons all B a b c l m n = refl
list-cons (complement e) B a b c l m n = ap (map not) (list-cons e B a b c l m n)
list-cons (both e u) B a b c l m n = ap₂ bits_and (list-cons e B a b c l m n) (list-cons u B a b c l m n)
list-cons (either e u) B a b c l m n = ap₂ bits_or (list-cons e B a b c l m n) (list-cons u B a b c l m n)
list-cons (apart e u) B a b c l m n = ap₂ bits_xor (list-cons e B a b c l m n) (list-cons u B a b c l m n)

list-nil : (e : Expression) → list e zero [] [] [] ≡ []
list-nil first = refl
list-nil second = refl
list-nil third = refl
list-nil none = refl
list-nil all = refl
list-nil (complement e) = ap (map not) (list-nil e)
list-nil (both e u) = ap₂ bits_and (list-nil e) (list-nil u)
list-nil (either e u) = ap₂ bits_or (list-nil e) (list-nil u)
list-nil (apart e u) = ap₂ bits_xor (list-nil e) (list-nil u)

module _ (e u : Expression) (h : (a b c : Bool) → item e a b c ≡ item u a b c) where
  same-list : (B : ℕ) (l m n : List Bool) → length l ≡ B → length m ≡ B → length n ≡ B → list e B l m n ≡ list u B l m n
  same-list zero [] [] [] f g k = list-nil e ∙ sym (list-nil u)
  same-list zero (a ∷ l) m n f g k = absurd (omega arith)
  same-list zero [] (b ∷ m) n f g k = absurd (omega arith)
  same-list zero [] [] (c ∷ n) f g k = absurd (omega arith)
  same-list (suc B) [] m n f g k = absurd (omega arith)
  same-list (suc B) (a ∷ l) [] n f g k = absurd (omega arith)
  same-list (suc B) (a ∷ l) (b ∷ m) [] f g k = absurd (omega arith)
  same-list (suc B) (a ∷ l) (b ∷ m) (c ∷ n) f g k =
      list-cons e B a b c l m n
      ∙ ap₂ (λ (d : Bool) (r : List Bool). d ∷ r) (h a b c) (same-list B l m n (omega arith) (omega arith) (omega arith))
      ∙ sym (list-cons u B a b c l m n)

-- ---- of numbers

module _ (s : Bool) (B : ℕ) (x y z : ℤ) where
  bits-number : (e : Expression) → bits B (number e s B x y z) ≡ list e B (bits B x) (bits B y) (bits B z)
  bits-number first = refl
  bits-number second = refl
  bits-number third = refl
  bits-number none = bits-zero B
  bits-number all = bits-not_zero s B
  bits-number (complement e) = bits-not s B _ ∙ ap (map not) (bits-number e)
  bits-number (both e u) = bits-and s B _ _ ∙ ap₂ bits_and (bits-number e) (bits-number u)
  bits-number (either e u) = bits-or s B _ _ ∙ ap₂ bits_or (bits-number e) (bits-number u)
  bits-number (apart e u) = bits-xor s B _ _ ∙ ap₂ bits_xor (bits-number e) (bits-number u)

  own : (e : Expression) → Owned e s B x y z → number e s B x y z ≡ val s (bits B (number e s B x y z))
  own first o = o
  own second o = o
  own third o = o
  own none o = zero-is s B o ∙ ap (val s) (sym (bits-zero B))
  own all o = not-is s B _ ∙ ap (val s) (sym (bits-not s B _))
  own (complement e) o = not-is s B _ ∙ ap (val s) (sym (bits-not s B _))
  own (both e u) o = and-is s B _ _ ∙ ap (val s) (sym (bits-and s B _ _))
  own (either e u) o = or-is s B _ _ ∙ ap (val s) (sym (bits-or s B _ _))
  own (apart e u) o = xor-is s B _ _ ∙ ap (val s) (sym (bits-xor s B _ _))

  pub same : (e u : Expression) → ((a b c : Bool) → item e a b c ≡ item u a b c) → Owned e s B x y z → Owned u s B x y z
      → number e s B x y z ≡ number u s B x y z
  same e u h o p =
      own e o
      ∙ ap (val s) (bits-number e ∙ same-list e u h B (bits B x) (bits B y) (bits B z) (length-bits B x) (length-bits B y) (length-bits B z) ∙ sym (bits-number u))
      ∙ sym (own u p)
