-- Consecutive integers, and the distance of two integers.
use Rattle.std.specs.Prelude.{◌≡◌, ◌^◌, ℕ, ◌-◌, Bool, ℤ, pos, negsuc, ◌+ℤ◌, ◌-ℤ◌, ◌≤ℤ◌, ◌<ℤ◌, true, IfSome, List, [], map, Option, Some, None, if◌then◌else◌, nat_lt}
use Rattle.std.specs.Int.{int_gap}
use Rattle.std.specs.Iterator.Runs.{Run, AnyItem, ItemsMapTo}
use Rattle.std.specs.List.{range_with_len}

-- the numbers from a to b; the list is empty if a is greater
abbrev pub numbers : ℤ → ℤ → List ℤ
numbers a b = map (λ k. a +ℤ pos k) (range_with_len 0 (int_gap a (b +ℤ pos 1)))

-- the numbers that a range from a to b still has: none if it is done
abbrev pub values_left : Bool → ℤ → ℤ → List ℤ
values_left done a b = if done then [] else numbers a b

-- the items of a run are the numbers from a to b: the first of them, and all of them, a and b included, if the run is whole
abbrev pub CountsUp : {S A : Type 0} {next : S → Option A → S → Type 0} → Run next → (A → ℤ) → ℤ → ℤ → Type 0
CountsUp p number a b = ItemsMapTo p number (numbers a b)
    × ((k : ℕ) → IfSome (p.at k) (λ x. (number x ≡ a +ℤ pos k) × (number x ≤ℤ b)))
    × (p.whole ≡ true → a ≤ℤ b → pos p.len ≡ b -ℤ a +ℤ pos 1)
    × (p.whole ≡ true → b <ℤ a → p.len ≡ 0)
    × (p.whole ≡ true → a ≤ℤ b → AnyItem p (λ x. number x ≡ a) × AnyItem p (λ x. number x ≡ b))

-- the result of `steps_between` for a distance: the number of steps, or that it does not fit in a `usize`
abbrev pub StepsBetween : ℤ → ℕ × Option ℕ → Type 0
StepsBetween (negsuc n) r = r ≡ (0, None)
StepsBetween (pos n) r = r ≡ (if nat_lt n (2 ^ 64) then (n, Some n) else (2 ^ 64 - 1, None))
