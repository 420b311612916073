-- The lines and the words of a text.
use Rattle.std.specs.Prelude.{ℕ, ◌||◌, Bool, true, false, List, [], ◌∷◌, map, filter, not, ◌==◌}
use Rattle.std.specs.List.{slice_split, before_first, after_first}
use Rattle.std.specs.Str.Lines.{lines}

abbrev pub has_items : {X : Type 0} → List X → Bool
has_items [] = false
has_items (x ∷ xs) = true

-- a space, a tab or a CR
abbrev pub is_blank : ℕ → Bool
is_blank byte = byte == 32 || (byte == 9 || byte == 13)

-- the words of a line, which blanks separate
unfoldable pub words_of : List ℕ → List (List ℕ)
words_of line = filter has_items (slice_split is_blank line)

-- the words of each line; an LF ends a line, and a CR that `lines` leaves out is a blank
unfoldable pub word_lines : List ℕ → List (List (List ℕ))
word_lines text = map words_of (lines text)

-- ---- the rest of a text

-- an LF
abbrev pub ends_line : ℕ → Bool
ends_line byte = byte == 10

abbrev pub is_solid : ℕ → Bool
is_solid byte = not (is_blank byte)

abbrev pub ends_word : ℕ → Bool
ends_word byte = ends_line byte || is_blank byte

-- from a place within a line on: the words left on this line, and those of each later line
pub record Left : Type 0 where
  pub words : List (List ℕ)
  pub later : List (List (List ℕ))

unfoldable pub left_of : List ℕ → Left
left_of text = record { words = words_of (before_first ends_line text); later = word_lines (after_first ends_line text) }
