-- What the reader of fast lines returns. Form.antt has the meaning of any line.
use Rattle.std.specs.Prelude.{◌≡◌, ℕ, ◌<◌, ◌≤◌, true, List, [], take, drop, get_or, length, Some}
use Rattle.std.specs.Char.{is_ascii_digit}
use Rattle.std.specs.List.{position_or_len}
use Rattle.std.specs.Str.Parse.{digits_value}
use Rattle.bitrun_text.specs.Text.{ends_word, left_of, word_lines}
use Rattle.bitrun_text.specs.Operation.{step_named}
use Rattle.arbitrary_int.specs.declared.steps.Step.{Step}

-- the words that are left on the line from a place of the text on
abbrev pub words_at : List ℕ → ℕ → List (List ℕ)
words_at text at = (left_of (drop at text)).words

-- the words of each later line
abbrev pub later_at : List ℕ → ℕ → List (List (List ℕ))
later_at text at = (left_of (drop at text)).later

-- no word continues at the beginning of the text
abbrev pub Ends : List ℕ → Type 0
Ends text = position_or_len ends_word text ≡ 0

-- the text begins with `at` digits, which write the number
pub record Reads (text : List ℕ) (at number : ℕ) : Type 0 where
  pub digits : (k : ℕ) → k < at → is_ascii_digit (get_or text k 0) ≡ true
  pub value : number ≡ digits_value 10 (take at text)
  pub within : at ≤ length text

-- the text begins with some digits, which write the number, and the rest follows them
pub record BeginsWithDigits (text : List ℕ) (number : ℕ) (rest : List ℕ) : Type 0 where
  pub count : ℕ
  pub some : 0 < count
  pub reads : Reads text count number
  pub follows : rest ≡ drop count text

-- the same, after blanks
pub record BeginsWithNumber (text : List ℕ) (number : ℕ) (rest : List ℕ) : Type 0 where
  pub solid : List ℕ
  pub same : left_of solid ≡ left_of text
  pub digits : BeginsWithDigits solid number rest

-- no words are left on the line with which the text begins, and the rest is the lines after it
pub record EndsLine (text rest : List ℕ) : Type 0 where
  pub ends : Ends text
  pub last : (left_of text).words ≡ []
  pub later : word_lines rest ≡ (left_of text).later

-- the words of the line with which the text begins name the step, and the rest is the lines after it
pub record NamesLine (count : ℕ) (text : List ℕ) (step : Step) (rest : List ℕ) : Type 0 where
  pub names : Some step ≡ step_named count (left_of text).words
  pub later : word_lines rest ≡ (left_of text).later
