-- What one call of a range's `next` or `next_back` returns, and the range after it.
use Rattle.std.specs.Prelude.{◌≡◌, ℤ, pos, ◌+ℤ◌, ◌-ℤ◌, ◌<ℤ◌, ◌<◌, Bool, false, List, [], ◌∷◌, ◌++◌, length}
use Rattle.std.proofs.Common.{arith, ap, ◌∙◌, sym, length-append}
use Rattle.std.proofs.lemmas.Int.{ints}
use Rattle.std.specs.Ordering.{int_cmp}
use Rattle.std.specs.declared.cmp.Ordering.{Ordering}
use Rattle.std.specs.declared.cmp.Ordering.TheVariants.{Less, Equal, Greater}
use Rattle.arbitrary_int.specs.Ranges.{values_left}
use Rattle.arbitrary_int.proofs.SteppingLemmas.{left-first, left-last, left-one, left-one_back, left-none}

below-cmp : (a b : ℤ) → int_cmp a b ≡ Less → a <ℤ b
below-cmp a b e = grind (arith, ints)

same-cmp : (a b : ℤ) → int_cmp a b ≡ Equal → a ≡ b
same-cmp a b e = grind (arith, ints)

above-cmp : (a b : ℤ) → int_cmp a b ≡ Greater → b <ℤ a
above-cmp a b e = grind (arith, ints)

pub below-of_cmp : (a b : ℤ) (o : Ordering) → o ≡ int_cmp a b → o ≡ Less → a <ℤ b
below-of_cmp a b o e f = below-cmp a b (sym e ∙ f)

pub first-of_more : (d : Bool) (a b c : ℤ) (o : Ordering) → o ≡ int_cmp a b → o ≡ Less → d ≡ false → c ≡ a +ℤ pos 1 → values_left d a b ≡ a ∷ values_left d c b
first-of_more d a b c o e f g h = left-first d a b c g (below-cmp a b (sym e ∙ f)) h

pub first-of_one : (d : Bool) (a b : ℤ) (o : Ordering) → o ≡ int_cmp a b → o ≡ Equal → d ≡ false → values_left d a b ≡ a ∷ []
first-of_one d a b o e f g = left-one d a b g (same-cmp a b (sym e ∙ f))

pub last-of_more : (d : Bool) (a b c : ℤ) (o : Ordering) → o ≡ int_cmp a b → o ≡ Less → d ≡ false → c ≡ b -ℤ pos 1 → values_left d a b ≡ values_left d a c ++ b ∷ []
last-of_more d a b c o e f g h = left-last d a b c g (below-cmp a b (sym e ∙ f)) h

pub last-of_one : (d : Bool) (a b : ℤ) (o : Ordering) → o ≡ int_cmp a b → o ≡ Equal → d ≡ false → values_left d a b ≡ b ∷ []
last-of_one d a b o e f g = left-one_back d a b g (same-cmp a b (sym e ∙ f))

pub none-left : (d : Bool) (a b : ℤ) (o : Ordering) → o ≡ int_cmp a b → o ≡ Greater → values_left d a b ≡ []
none-left d a b o e f = left-none d a b (above-cmp a b (sym e ∙ f))

pub fewer-first : (l m : List ℤ) (a : ℤ) → l ≡ a ∷ m → length m < length l
fewer-first l m a e = omega (arith, ap length e)

pub fewer-last : (l m : List ℤ) (b : ℤ) → l ≡ m ++ b ∷ [] → length m < length l
fewer-last l m b e = omega (arith, ap length e, length-append m (b ∷ []))

pub ruleset first_steps = (first-of_more, first-of_one, none-left)

pub ruleset last_steps = (last-of_more, last-of_one, none-left)
