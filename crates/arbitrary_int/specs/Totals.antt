-- Sums and products of the items of an iterator.
use Rattle.std.specs.Prelude.{◌≡◌, ℕ, ℤ, Bool, List, ◌∷◌, map, Option, MatchOption}
use Rattle.std.specs.Iterator.Runs.{SomeRun, WholeRun}
use Rattle.std.specs.List.{AllByRecursion, fold, scan}
use Rattle.arbitrary_base.specs.Range.{InRange}

module _ (s : Bool) (B : ℕ) (op : ℤ → ℤ → ℤ) (first : ℤ) where
  -- the first number and each partial result are in range
  abbrev pub PartialsFit : List ℤ → Type 0
  PartialsFit l = AllByRecursion (InRange s B) (first ∷ scan op op first l)

  module _ {I V : Type 0} (next : I → Option V → I → Type 0) (number : V → ℤ) where
    -- the total of all items if all partial results are in range, and `None` if the partial result of some first items is not
    abbrev pub TotalOrNone : I → Option V → Type 0
    TotalOrNone i r = MatchOption r
        (SomeRun next i (λ p. ¬ (PartialsFit (map number p.items))))
        (λ t. WholeRun next i (λ p. PartialsFit (map number p.items) × (number t ≡ fold op first (map number p.items))))
