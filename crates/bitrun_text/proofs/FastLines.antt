-- A line names a step if it begins with the name of the step and its operands follow.
use Rattle.std.proofs.Common.{◌≡◌, ℕ, suc, one-add, ◌+◌, ◌<◌, ◌≤◌, true, false, not, ◌&&◌, Bool, List, [], ◌∷◌, ◌++◌, length, take, drop, get_or, Some, option_map, bytes_eq, refl, sym, ap, ◌∙◌, inl, inr, arith}
use Rattle.std.specs.List.{find, position_or_len, before_first}
use Rattle.std.proofs.Math.Seq.{take-append_seam, drop-append_seam}
use Rattle.std.proofs.lemmas.List.{take-append-drop, drop_more}
use Rattle.std.proofs.lemmas.Slice.Eq.{bytes_eq-Decides}
use Rattle.std.proofs.lemmas.Bool.{cases_Bool, cases_lt}
use Rattle.std.proofs.lemmas.Bool.Decides.{nat_tests}
use Rattle.arbitrary_int.specs.declared.steps.Step.{Step}
use Rattle.bitrun_text.specs.Text.{is_blank, ends_word, words_of, word_lines, Left, left_of}
use Rattle.bitrun_text.specs.Operation.{operation_rows, operation_named, step_named, step_with}
use Rattle.bitrun_text.specs.declared.operation.Operation.{Operation}
use Rattle.bitrun_text.specs.Fast.{Ends, EndsLine, NamesLine}
use Rattle.bitrun_text.proofs.Lines.{left-blank, left-word, left-line}

-- ---- the name

-- no word ends within the bytes
abbrev is_whole : List ℕ → Bool
is_whole [] = true
is_whole (byte ∷ bytes) = not (ends_word byte) && is_whole bytes

-- each name is a whole word
abbrev are_whole : List (List ℕ × Operation) → Bool
are_whole [] = true
are_whole (row ∷ rows) = is_whole row.0 && are_whole rows

found_whole : (name : List ℕ) (rows : List (List ℕ × Operation)) (operation : Operation) → are_whole rows ≡ true
    → option_map (λ row. row.1) (find (λ row. bytes_eq name row.0) rows) ≡ Some operation → is_whole name ≡ true
found_whole name [] operation whole found = absurd cc
found_whole name (row ∷ rows) operation whole found =
    elim (cases_Bool (bytes_eq name row.0)) [
      | inl same ↦ (let e : name ≡ row.0 = (bytes_eq-Decides name row.0).0 same in rw e (and_first (is_whole row.0) (are_whole rows) whole))
      | inr other ↦ found_whole name rows operation (and_second (is_whole row.0) (are_whole rows) whole) (rw other at found)
    ]
  where
    and_first : (a b : Bool) → a && b ≡ true → a ≡ true
    and_first true b e = refl
    and_first false b e = absurd cc

    and_second : (a b : Bool) → a && b ≡ true → b ≡ true
    and_second true b e = e
    and_second false b e = absurd cc

name_whole : (name : List ℕ) (operation : Operation) → operation_named name ≡ Some operation → is_whole name ≡ true
unfolding operation_named
name_whole name operation named = found_whole name operation_rows operation refl named

name_some : (name : List ℕ) (operation : Operation) → operation_named name ≡ Some operation → 0 < length name
unfolding operation_named
name_some [] operation named = absurd cc
name_some (byte ∷ bytes) operation named = omega arith

-- ---- words

word_size : (name rest : List ℕ) → is_whole name ≡ true → Ends rest → position_or_len ends_word (name ++ rest) ≡ length name
word_size [] rest whole ends = ends
word_size (byte ∷ bytes) rest whole ends =
    elim (cases_Bool (ends_word byte)) [
      | inl end ↦ absurd (let h = rw end at whole in cc)
      | inr solid ↦ (let h : is_whole bytes ≡ true = rw solid at whole in rw (solid, one-add) (ap suc (word_size bytes rest h ends)))
    ]

-- what is left of a text that begins with a whole word
word_left : (name rest : List ℕ) → is_whole name ≡ true → 0 < length name → Ends rest
    → left_of (name ++ rest) ≡ record { words = name ∷ (left_of rest).words; later = (left_of rest).later }
word_left name rest whole some ends =
    let size = word_size name rest whole ends in
    let word : before_first ends_word (name ++ rest) ≡ name = rw size (take-append_seam name rest) in
    let follows : drop (position_or_len ends_word (name ++ rest)) (name ++ rest) ≡ rest = rw size (drop-append_seam name rest) in
    left-word (name ++ rest) (omega (arith, some, ap length word)) ∙ rw (word, follows) refl

-- after the name comes a blank, and the words from there on are operands of the step
pub line_named : (count : ℕ) (text rest : List ℕ) (size : ℕ) (operation : Operation) (step : Step) → Ends (drop size text)
    → operation_named (take size text) ≡ Some operation → step_with count operation (left_of (drop size text)).words ≡ Some step
    → word_lines rest ≡ (left_of (drop size text)).later → NamesLine count text step rest
unfolding step_named
line_named count text rest size operation step ends named operands later =
    let name = take size text in
    let left = word_left name (drop size text) (name_whole name operation named) (name_some name operation named) ends in
    let taken = ap left_of (sym (take-append-drop size text)) ∙ left in
    record {
      names = rw (taken, named, operands) refl;
      later = later ∙ sym (ap (λ (l : Left). l.later) taken);
    }

-- ---- where a word ends

pub blank_ends : (text : List ℕ) (at : ℕ) → at < length text → is_blank (get_or text at 0) ≡ true → Ends (drop at text)
blank_ends text at within blank =
    let end : ends_word (get_or text at 0) ≡ true = ends (get_or text at 0) blank in
    rw (drop_more text at 0 within, end) refl
  where
    ends : (byte : ℕ) → is_blank byte ≡ true → ends_word byte ≡ true
    ends byte blank = grind (arith, nat_tests)

pub blank_passed : (text : List ℕ) (at : ℕ) → at < length text → is_blank (get_or text at 0) ≡ true → left_of (drop (at + 1) text) ≡ left_of (drop at text)
blank_passed text at within blank = sym (ap left_of (drop_more text at 0 within) ∙ left-blank (get_or text at 0) (drop (at + 1) text) blank)

-- a blank more
pub blanks_end : (text : List ℕ) (at end : ℕ) → at ≤ end → end < length text → is_blank (get_or text end 0) ≡ true → (at < end → Ends (drop at text)) → Ends (drop at text)
blanks_end text at end order within blank before = elim (cases_lt at end) [
  | inl later ↦ before later
  | inr here ↦
      let place : end ≡ at = omega (arith, order, here) in
      blank_ends text at (rw place at within) (rw place at blank)
]

pub lf_ends : (text more : List ℕ) → text ≡ 10 ∷ more → EndsLine text more
unfolding left_of words_of
lf_ends text more e = record { ends = rw e refl; last = rw e refl; later = rw e refl }

-- an LF ends the line, also after blanks
pub line_ends : (text : List ℕ) (at end : ℕ) → at ≤ end → end < length text → get_or text end 0 ≡ 10 → left_of (drop end text) ≡ left_of (drop at text)
    → (at < end → Ends (drop at text)) → EndsLine (drop at text) (drop (end + 1) text)
line_ends text at end order within lf same blanks =
    let line = lf_ends (drop end text) (drop (end + 1) text) (rw lf at (drop_more text end 0 within)) in
    let ends : Ends (drop at text) = elim (cases_lt at end) [
      | inl later ↦ blanks later
      | inr place ↦ (let e : end ≡ at = omega (arith, order, place) in rw e at line.ends)
    ] in
    record {
      ends = ends;
      last = ap (λ (left : Left). left.words) (sym same) ∙ line.last;
      later = line.later ∙ ap (λ (left : Left). left.later) same;
    }

-- the lines are the same where only blanks are between, and something follows them
pub same_lines : (text other : List ℕ) → 0 < length text → 0 < length other → left_of text ≡ left_of other → word_lines text ≡ word_lines other
same_lines text other some others same =
    left-line text some ∙ ap (λ (left : Left). left.words ∷ left.later) same ∙ sym (left-line other others)
