-- The first word and the first line of a text, and what remains after them.
use Rattle.std.proofs.Common.{◌≡◌, ℕ, suc, ◌+◌, ◌-◌, ◌<◌, Bool, true, false, cond, not, List, [], ◌∷◌, ◌++◌, length, take, drop, get_or, map, filter, position, unwrap_or, eqb, eqb-true, false-eqb, refl, sym, ap, ◌∙◌, inl, inr, arith, one-add, suc-add, append-nil, drop_of_length-le, take_all}
use Rattle.std.specs.List.{slice_split, onto_first, position_or_len, before_first, after_first}
use Rattle.std.specs.Str.Lines.{lines_of_parts, strip_carriage_return}
use Rattle.std.proofs.lemmas.Bool.{cases_Bool, cases_lt, cases_eq, ne_eqb, lt-ltb, le-ltb}
use Rattle.std.proofs.lemmas.Bool.Decides.{nat_tests}
use Rattle.std.proofs.lemmas.List.Elements.{filter-append}
use Rattle.std.proofs.lemmas.List.Sums.{prefix_len-le-length, fails_before_first}
use Rattle.std.proofs.lemmas.List.Splits.{slice_split-cons_no, slice_split-cons_yes, slice_split_first, slice_split_none}
use Rattle.std.proofs.lemmas.List.{nil_from_length, take_more, get_or_past}
use Rattle.bitrun_text.specs.Text.{ends_line, is_blank, is_solid, ends_word, has_items, words_of, word_lines, Left, left_of}

-- ---- a part that ends before the first item that passes

module _ {X : Type 0} (p : X → Bool) (x : X) (xs : List X) where
  position-yes : p x ≡ true → position_or_len p (x ∷ xs) ≡ 0
  position-yes passed = rw passed refl

  position-no : p x ≡ false → position_or_len p (x ∷ xs) ≡ suc (position_or_len p xs)
  position-no failed = rw (failed, one-add) refl

  before-yes : p x ≡ true → before_first p (x ∷ xs) ≡ []
  before-yes passed = rw (position-yes passed) refl

  before-no : p x ≡ false → before_first p (x ∷ xs) ≡ x ∷ before_first p xs
  before-no failed = rw (position-no failed) refl

  after-no : p x ≡ false → after_first p (x ∷ xs) ≡ after_first p xs
  after-no failed = rw (position-no failed, suc-add) refl

-- `position` finds the same place
pub place_found : {X : Type 0} (p : X → Bool) (xs : List X) → unwrap_or (position p xs) (length xs) ≡ position_or_len p xs
place_found p xs =
    let place = position_or_len p xs in
    elim (cases_lt place (length xs)) [
      | inl within ↦ rw (lt-ltb place (length xs) within) refl
      | inr none ↦ rw (le-ltb place (length xs) none) (omega (arith, none, prefix_len-le-length (λ x. not (p x)) xs))
    ]

pub ruleset places = (place_found, prefix_len-le-length)

-- ---- bytes

blank-not_lf : (byte : ℕ) → is_blank byte ≡ true → ends_line byte ≡ false
blank-not_lf byte blank = grind (arith, nat_tests)

solid-not_lf : (byte : ℕ) → ends_word byte ≡ false → ends_line byte ≡ false
solid-not_lf byte solid = grind (arith, nat_tests)

solid-not_blank : (byte : ℕ) → ends_word byte ≡ false → is_blank byte ≡ false
solid-not_blank byte solid = grind (arith, nat_tests)

end-blank : (byte : ℕ) → ends_word byte ≡ true → ends_line byte ≡ false → is_blank byte ≡ true
end-blank byte end other = grind (arith, nat_tests)

-- ---- words

pub some_items : {X : Type 0} (xs : List X) → 0 < length xs → has_items xs ≡ true
some_items [] some = absurd (omega arith)
some_items (x ∷ xs) some = refl

words-blank : (byte : ℕ) (line : List ℕ) → is_blank byte ≡ true → words_of (byte ∷ line) ≡ words_of line
unfolding words_of
words-blank byte line blank = ap (filter has_items) (slice_split-cons_yes is_blank byte line blank)

pub left-blank : (byte : ℕ) (bytes : List ℕ) → is_blank byte ≡ true → left_of (byte ∷ bytes) ≡ left_of bytes
unfolding left_of
left-blank byte bytes blank =
    let other = blank-not_lf byte blank in
    rw (before-no ends_line byte bytes other, after-no ends_line byte bytes other, words-blank byte (before_first ends_line bytes) blank) refl

-- blanks may be passed over
pub left-blanks : (text : List ℕ) → left_of (drop (position_or_len is_solid text) text) ≡ left_of text
left-blanks [] = refl
left-blanks (byte ∷ bytes) =
    elim (cases_Bool (is_blank byte)) [
      | inl blank ↦ rw (position-no is_solid byte bytes (rw blank refl)) (left-blanks bytes ∙ sym (left-blank byte bytes blank))
      | inr solid ↦ rw (position-yes is_solid byte bytes (rw solid refl)) refl
    ]

-- the parts of a line after its first word
record After (text : List ℕ) : Type 0 where
  pub parts : List (List ℕ)
  pub split : slice_split is_blank (before_first ends_line text) ≡ before_first ends_word text ∷ parts
  pub words : filter has_items parts ≡ words_of (before_first ends_line (drop (position_or_len ends_word text) text))
  pub later : after_first ends_line text ≡ after_first ends_line (drop (position_or_len ends_word text) text)

after_word : (text : List ℕ) → After text
unfolding words_of
after_word [] = record { parts = []; split = refl; words = refl; later = refl }
after_word (byte ∷ bytes) =
    elim (cases_Bool (ends_word byte)) [
      | inl end ↦
          let here = position-yes ends_word byte bytes end in
          elim (cases_Bool (ends_line byte)) [
            | inl lf ↦ record {
              parts = [];
              split = rw (before-yes ends_line byte bytes lf, here) refl;
              words = rw (here, before-yes ends_line byte bytes lf) refl;
              later = rw here refl;
            }
            | inr other ↦
                let line = before_first ends_line bytes in
                let cut = slice_split-cons_yes is_blank byte line (end-blank byte end other) in
                record {
                  parts = slice_split is_blank line;
                  split = rw (before-no ends_line byte bytes other, here) cut;
                  words = rw (here, before-no ends_line byte bytes other) (sym (ap (filter has_items) cut));
                  later = rw here refl;
                }
          ]
      | inr solid ↦
          let line = before_first ends_line bytes in
          let other = solid-not_lf byte solid in
          let there = position-no ends_word byte bytes solid in
          let rest = after_word bytes in
          record {
            parts = rest.parts;
            split = rw (before-no ends_line byte bytes other, there) (slice_split-cons_no is_blank byte line (solid-not_blank byte solid) ∙ ap (onto_first byte) rest.split);
            words = rw there rest.words;
            later = rw there (after-no ends_line byte bytes other ∙ rest.later);
          }
    ]

-- the first word, and what follows it
pub left-word : (text : List ℕ) → 0 < length (before_first ends_word text)
    → left_of text ≡ record { words = before_first ends_word text ∷ (left_of (drop (position_or_len ends_word text) text)).words; later = (left_of (drop (position_or_len ends_word text) text)).later }
unfolding left_of words_of
left-word text some =
    let rest = after_word text in
    rw (rest.split, some_items (before_first ends_word text) some, rest.words, rest.later) refl

-- past the blanks, where there is no word
pub left-no_word : (text : List ℕ) → length (before_first ends_word (drop (position_or_len is_solid text) text)) ≡ 0 → (left_of (drop (position_or_len is_solid text) text)).words ≡ []
unfolding left_of words_of
left-no_word [] none = refl
left-no_word (byte ∷ bytes) none =
    elim (cases_Bool (is_blank byte)) [
      | inl blank ↦
          let there = position-no is_solid byte bytes (rw blank refl) in
          rw there (left-no_word bytes (rw there at none))
      | inr solid ↦
          let here = position-yes is_solid byte bytes (rw solid refl) in
          rw here (elim (cases_Bool (ends_line byte)) [
            | inl lf ↦ rw (before-yes ends_line byte bytes lf) refl
            | inr other ↦
                let stays : ends_word byte ≡ false = rw (other, solid) refl in
                let short : length (before_first ends_word (byte ∷ bytes)) ≡ 0 = rw here at none in
                absurd (let h = rw (before-no ends_word byte bytes stays) at short in omega (arith, h))
          ])
    ]

-- past the blanks, where there is no word, nothing is taken
nothing_taken : (text : List ℕ) → length (before_first ends_word text) ≡ 0 → drop (position_or_len ends_word text) text ≡ text
nothing_taken [] none = refl
nothing_taken (byte ∷ bytes) none =
    elim (cases_Bool (ends_word byte)) [
      | inl end ↦ rw (position-yes ends_word byte bytes end) refl
      | inr solid ↦ absurd (let h = rw (before-no ends_word byte bytes solid) at none in omega (arith, h))
    ]

-- what follows a word ends it
pub ends-there : (text : List ℕ) → position_or_len ends_word (drop (position_or_len ends_word text) text) ≡ 0
ends-there [] = refl
ends-there (byte ∷ bytes) =
    elim (cases_Bool (ends_word byte)) [
      | inl end ↦ rw (position-yes ends_word byte bytes end) (position-yes ends_word byte bytes end)
      | inr solid ↦ rw (position-no ends_word byte bytes solid) (ends-there bytes)
    ]

module _ (text solid word rest : List ℕ) (skipped : solid ≡ drop (position_or_len is_solid text) text)
    (first : word ≡ before_first ends_word solid) (follows : rest ≡ drop (position_or_len ends_word solid) solid) where
  -- what remains before and after a word is taken
  pub word_taken : 0 < length word → left_of text ≡ record { words = word ∷ (left_of rest).words; later = (left_of rest).later }
  word_taken some =
      sym (left-blanks text) ∙ ap left_of (sym skipped)
      ∙ rw (first, follows) (left-word solid (omega (arith, ap length first)))

  -- and where there is no word
  pub no_word_taken : length word ≡ 0 → (left_of rest ≡ left_of text) × ((left_of rest).words ≡ [])
  no_word_taken none =
      let empty : length (before_first ends_word solid) ≡ 0 = sym (ap length first) ∙ none in
      let same : rest ≡ solid = follows ∙ nothing_taken solid empty in (
        ap left_of (same ∙ skipped) ∙ left-blanks text,
        rw (same, skipped) (left-no_word text (rw skipped at empty)),
      )

  -- so the line is at its end where no word is there
  pub words-end : (none : Bool) → none ≡ eqb (length word) 0 → none ≡ eqb (length (left_of text).words) 0
  words-end true e =
      let last = no_word_taken (eqb-true _ _ (sym e)) in
      let empty : (left_of text).words ≡ [] = ap (λ (left : Left). left.words) (sym last.0) ∙ last.1 in
      rw empty refl
  words-end false e = rw (word_taken (omega (arith, false-eqb (length word) 0 e))) (sym (ne_eqb (suc (length (left_of rest).words)) 0 (omega arith)))

-- ---- lines

-- there is a part
parts_there : {X : Type 0} (p : X → Bool) (xs : List X) → (part : List X) × (parts : List (List X)) × (slice_split p xs ≡ part ∷ parts)
parts_there p [] = ([], [], refl)
parts_there p (x ∷ xs) =
    let others = parts_there p xs in
    elim (cases_Bool (p x)) [
      | inl passed ↦ ([], slice_split p xs, slice_split-cons_yes p x xs passed)
      | inr failed ↦ (x ∷ others.0, others.1, slice_split-cons_no p x xs failed ∙ ap (onto_first x) others.2)
    ]

-- a last item that passes begins an empty part
split_last : {X : Type 0} (p : X → Bool) (xs : List X) (last : X) → p last ≡ true → slice_split p (xs ++ last ∷ []) ≡ slice_split p xs ++ [] ∷ []
split_last p [] last ends = rw ends refl
split_last p (x ∷ xs) last ends =
    elim (cases_Bool (p x)) [
      | inl passed ↦ rw (passed, split_last p xs last ends) refl
      | inr failed ↦ rw (failed, split_last p xs last ends, (parts_there p xs).2) refl
    ]

-- a line has the same words without the CR at its end
words-stripped : (line : List ℕ) → words_of (strip_carriage_return line) ≡ words_of line
unfolding words_of
words-stripped line =
    let end = length line - 1 in
    elim (cases_eq (get_or line end 0) 13) [
      | inl cr ↦
          let within : end < length line = elim (cases_lt end (length line)) [
            | inl within ↦ within
            | inr none ↦ absurd (let zero = get_or_past line end 0 none in omega (arith, cr, zero))
          ] in
          let last : end + 1 ≡ length line = omega (arith, within) in
          let whole : line ≡ take end line ++ 13 ∷ [] = sym (take_all (end + 1) line (omega (arith, last))) ∙ take_more line end 0 within ∙ ap (λ (byte : ℕ). take end line ++ byte ∷ []) cr in
          let words = ap (filter has_items) (ap (slice_split is_blank) whole ∙ split_last is_blank (take end line) 13 refl)
          ∙ filter-append has_items (slice_split is_blank (take end line)) ([] ∷ []) ∙ append-nil _ in
          rw cr (sym words)
      | inr other ↦ rw (ne_eqb (get_or line end 0) 13 other) refl
    ]

pub left-line : (text : List ℕ) → 0 < length text → word_lines text ≡ (left_of text).words ∷ (left_of text).later
unfolding left_of word_lines
left-line [] some = absurd (omega arith)
left-line (byte ∷ bytes) some =
    let text = byte ∷ bytes in
    let words = λ (parts : List (List ℕ)). map words_of (lines_of_parts parts) in
    elim (cases_lt (position_or_len ends_line text) (length text)) [
      | inl within ↦
          let line = before_first ends_line text in
          let after = after_first ends_line text in
          let next = parts_there ends_line after in
          ap words (slice_split_first ends_line text 0 within) ∙ rw (next.2, words-stripped line) refl
      | inr all ↦
          let line : before_first ends_line text ≡ text = take_all (position_or_len ends_line text) text all in
          let none : after_first ends_line text ≡ [] = drop_of_length-le text (omega (arith, all)) in
          ap words (slice_split_none ends_line text (λ k d lt. fails_before_first ends_line text k d (omega (arith, lt, all)))) ∙ rw (line, none, ne_eqb (length text) 0 (omega arith)) refl
    ]

pub no_line : (text : List ℕ) → length text ≡ 0 → word_lines text ≡ []
unfolding word_lines
no_line text none = rw (nil_from_length text none) refl

pub left-later : (text : List ℕ) → (left_of text).later ≡ word_lines (after_first ends_line text)
unfolding left_of
left-later text = refl

-- what remains before and after going on to the next line
pub line_passed : (text rest : List ℕ) (none : Bool) → rest ≡ after_first ends_line text → none ≡ eqb (length rest) 0
    → (left_of text).later ≡ cond (not none) ((left_of rest).words ∷ (left_of rest).later) []
line_passed text rest true follows e = left-later text ∙ ap word_lines (sym follows) ∙ no_line rest (eqb-true _ _ (sym e))
line_passed text rest false follows e = left-later text ∙ ap word_lines (sym follows) ∙ left-line rest (omega (arith, false-eqb (length rest) 0 e))
