-- The first number of a range, and the last.
use Rattle.std.specs.Prelude.{List, [], pos, ℤ, ◌++◌, ◌+ℤ◌, ◌-ℤ◌, ◌∷◌, ◌≡◌, ◌≤ℤ◌}
use Rattle.std.proofs.Common.{ap, refl, ◌∙◌}
use Rattle.arbitrary_int.proofs.SteppingLemmas.{numbers-first, numbers-last}
use Rattle.arbitrary_int.specs.Ranges.{numbers}

pub numbers-head : (a b : ℤ) → a ≤ℤ b → numbers a b ≡ a ∷ numbers (a +ℤ pos 1) b
numbers-head a b h = numbers-first a b (a +ℤ pos 1) h refl

-- The last number of a list, so that two lists that are equal have one last number. Both laws' first parts say nothing: they show the search the call
pub last_of : List ℤ → ℤ
last_of [] = pos 0
last_of (x ∷ []) = x
last_of (x ∷ y ∷ l) = last_of (y ∷ l)

pub last_of-joined : (l : List ℤ) (x : ℤ) → (l ++ x ∷ [] ≡ l ++ x ∷ []) × (last_of (l ++ x ∷ []) ≡ x)
unfolding last_of
last_of-joined l x = (refl, joined l)
  where
    joined : (l : List ℤ) → last_of (l ++ x ∷ []) ≡ x
    joined [] = refl
    joined (y ∷ []) = refl
    joined (y ∷ z ∷ l) = joined (z ∷ l)

pub numbers-end : (a b : ℤ) → a ≤ℤ b → (numbers a b ≡ numbers a b) × (last_of (numbers a b) ≡ b)
numbers-end a b h = (refl, ap last_of (numbers-last a b (b -ℤ pos 1) h refl) ∙ (last_of-joined (numbers a (b -ℤ pos 1)) b).1)
