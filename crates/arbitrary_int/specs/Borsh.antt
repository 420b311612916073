-- Why a value cannot be read from a stream.
use Rattle.std.specs.Prelude.{◌≡◌, ℕ, ◌<◌, ◌⊎◌, List, length, take, drop, Option, Some, IfSome}

-- the reader failed, or had fewer than n bytes, or its first n bytes are not canonical, and those after them are left
abbrev pub Unreadable : (List ℕ → Type 0) → Option (List ℕ) → Option (List ℕ) → Type 0 → ℕ → Type 0
Unreadable canonical held left failed n =
    IfSome held (λ bs. failed ⊎ ((length bs < n) ⊎ (¬ (canonical (take n bs)) × (left ≡ Some (drop n bs)))))
