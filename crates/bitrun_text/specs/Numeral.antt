-- The numbers that words write.
use Rattle.std.specs.Prelude.{ℕ, ◌≤◌, ◌^◌, ◌&&◌, List, [], ◌∷◌, Bool, Option, Some, None, option_map, option_and_then, ℤ, pos, neg_ℤ, unsigned_abs, ◌==◌, nat_lt, if◌then◌else◌, ⊤}
use Rattle.std.specs.Bool.{then_some}
use Rattle.std.specs.Str.{all_ascii_digits}
use Rattle.std.specs.Str.Parse.{digits_value}
use Rattle.arbitrary_int.specs.Range.{in_range}
use Rattle.bitrun_text.specs.Text.{has_items}

-- the number that one or more decimal digits write
unfoldable pub number_in : List ℕ → Option ℕ
number_in word = if has_items word && all_ascii_digits word then Some (digits_value 10 word) else None

-- the number that one or more decimal digits write, with or without a minus sign before them
unfoldable pub integer_in : List ℕ → Option ℤ
integer_in [] = None
integer_in (byte ∷ bytes) = if byte == 45 then option_map (λ n. neg_ℤ (pos n)) (number_in bytes) else option_map pos (number_in (byte ∷ bytes))

-- the number, if it is below the limit
unfoldable pub number_below : ℕ → List ℕ → Option ℕ
number_below limit word = option_and_then (λ n. if nat_lt n limit then Some n else None) (number_in word)

-- the number that a word writes, if it is in range
unfoldable pub value_named : Bool → ℕ → List ℕ → Option ℤ
value_named s B word = option_and_then (λ x. then_some (in_range s B x) x) (integer_in word)

-- ---- what the parts of the reader say

-- the number that the first of the words writes, if it is below the limit, and the words after it
abbrev pub first_number : ℕ → List (List ℕ) → Option (ℕ × List (List ℕ))
first_number limit [] = None
first_number limit (word ∷ words) = option_map (λ n. (n, words)) (number_below limit word)

-- there is no number, or it is out of range of each type of 120 bits
abbrev pub IsFar : Option ℤ → Type 0
IsFar None = ⊤
IsFar (Some x) = 2 ^ 120 ≤ unsigned_abs x
