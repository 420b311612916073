-- The number with which a text begins, by the digits that are read.
use Rattle.std.proofs.Common.{◌≡◌, ℕ, zero, suc, ◌+◌, ◌-◌, ◌*◌, ◌<◌, ◌≤◌, true, false, List, [], ◌∷◌, length, take, drop, get_or, Some, refl, sym, ap, ◌∙◌, inl, inr, arith, below_more, length-take, length-drop, drop-drop}
use Rattle.std.proofs.lemmas.List.{get_or-drop}
use Rattle.std.specs.Char.{is_ascii_digit}
use Rattle.std.specs.List.{position_or_len, before_first}
use Rattle.std.specs.Str.Parse.{digits_value}
use Rattle.std.proofs.lemmas.Bool.{cases_Bool, cases_lt}
use Rattle.std.proofs.lemmas.Bool.Decides.{nat_tests}
use Rattle.std.proofs.lemmas.Int.Digits.{digits_value_more}
use Rattle.std.proofs.lemmas.List.Sums.{prefix_len-le-length, passes_at_first}
use Rattle.bitrun_text.specs.Text.{ends_word, word_lines, Left, left_of}
use Rattle.bitrun_text.specs.Numeral.{number_below, first_number}
use Rattle.bitrun_text.specs.Fast.{Ends, Reads, BeginsWithDigits, BeginsWithNumber, EndsLine}
use Rattle.bitrun_text.proofs.Digits.{digit_is, all_digits, is_number}
use Rattle.bitrun_text.proofs.Lines.{left-word}

digit-in_word : (byte : ℕ) → is_ascii_digit byte ≡ true → ends_word byte ≡ false
digit-in_word byte digit = grind (arith, nat_tests)

get-take : (xs : List ℕ) (k n : ℕ) → k < n → get_or (take n xs) k 0 ≡ get_or xs k 0
get-take xs k zero h = absurd (omega arith)
get-take [] k (suc n) h = refl
get-take (x ∷ xs) zero (suc n) h = refl
get-take (x ∷ xs) (suc k) (suc n) h = get-take xs k n (omega arith)

position-drop : (xs : List ℕ) (i : ℕ) → i ≤ position_or_len ends_word xs → position_or_len ends_word (drop i xs) + i ≡ position_or_len ends_word xs
position-drop xs zero h = omega arith
position-drop [] (suc i) h = absurd (omega arith)
position-drop (x ∷ xs) (suc i) h =
    elim (cases_Bool (ends_word x)) [
      | inl end ↦ absurd (let k = rw end at h in omega (arith, k))
      | inr other ↦
          let more : i ≤ position_or_len ends_word xs = (let k = rw other at h in omega (arith, k)) in
          rw other (omega (arith, position-drop xs i more))
    ]

pub reads-none : (text : List ℕ) → Reads text 0 0
reads-none text = record { digits = λ k lt. absurd (omega arith); value = refl; within = omega arith }

pub reads-more : (text : List ℕ) (at number : ℕ) → Reads text at number → at < length text → is_ascii_digit (get_or text at 0) ≡ true
    → Reads text (at + 1) (number * 10 + (get_or text at 0 - 48))
reads-more text at number r within digit = record {
  digits = below_more _ _ r.digits digit;
  value = omega (arith, digits_value_more 10 text at within, digit_is (get_or text at 0) digit, r.value);
  within = omega arith;
}

-- one digit more after those from a place on
pub reads-later : (text : List ℕ) (start at number next : ℕ) → start ≤ at → at < length text → Reads (drop start text) (at - start) number
    → is_ascii_digit (get_or text at 0) ≡ true → next ≡ 10 * number + (get_or text at 0 - 48) → Reads (drop start text) (at + 1 - start) next
reads-later text start at number next order within reads digit is =
    let there : start + (at - start) ≡ at = omega (arith, order) in
    let here : get_or (drop start text) (at - start) 0 ≡ get_or text at 0 = get_or-drop start text (at - start) 0 ∙ ap (λ (k : ℕ). get_or text k 0) there in
    let size : at - start + 1 ≡ at + 1 - start = omega (arith, order) in
    let value : number * 10 + (get_or text at 0 - 48) ≡ next = omega (arith, is) in
    let more = reads-more (drop start text) (at - start) number reads (omega (arith, length-drop start text, order, within)) (rw here digit) in
    rw (here, value, size) at more

module _ (text : List ℕ) (at number : ℕ) (r : Reads text at number) where
  -- the word has the digits
  reach : at ≤ position_or_len ends_word text
  reach =
      let end = position_or_len ends_word text in
      elim (cases_lt end at) [
        | inl short ↦
            let passed = passes_at_first ends_word text 0 (omega (arith, short, r.within)) in
            let failed = digit-in_word (get_or text end 0) (r.digits end short) in
            absurd (cc (passed, failed))
        | inr far ↦ far
      ]

  pub word-ended : position_or_len ends_word (drop at text) ≡ 0 → position_or_len ends_word text ≡ at
  word-ended e = omega (arith, position-drop text at reach, e)

  pub reads-number : (limit : ℕ) → 0 < at → position_or_len ends_word text ≡ at → number < limit → number_below limit (before_first ends_word text) ≡ Some number
  reads-number limit some whole below =
      let word = before_first ends_word text in
      let short : word ≡ take at text = ap (λ (n : ℕ). take n text) whole in
      let long : length word ≡ at = omega (arith, ap length short, length-take at text, r.within) in
      let value : digits_value 10 word ≡ number = ap (digits_value 10) short ∙ sym r.value in
      let digits = all_digits word (λ k lt. rw (get-take text k (position_or_len ends_word text) (omega (arith, lt, long, whole))) (r.digits k (omega (arith, lt, long)))) in
      is_number limit word (omega (arith, long, some)) digits (omega (arith, value, below)) ∙ ap Some value

-- ---- digits, and what ends a word after them

module _ (text rest : List ℕ) (n limit : ℕ) (digits : BeginsWithDigits text n rest) (ends : position_or_len ends_word rest ≡ 0) where
  whole : position_or_len ends_word text ≡ digits.count
  whole = word-ended text digits.count n digits.reads (ap (position_or_len ends_word) (sym digits.follows) ∙ ends)

  digits_left : left_of text ≡ record { words = before_first ends_word text ∷ (left_of rest).words; later = (left_of rest).later }
  digits_left =
      let after : drop (position_or_len ends_word text) text ≡ rest = ap (λ (k : ℕ). drop k text) whole ∙ sym digits.follows in
      let fits : position_or_len ends_word text ≤ length text = prefix_len-le-length _ text in
      left-word text (omega (arith, length-take (position_or_len ends_word text) text, fits, whole, digits.some)) ∙ rw after refl

  pub digits-later : (left_of rest).later ≡ (left_of text).later
  digits-later = sym (ap (λ (left : Left). left.later) digits_left)

  pub digits-taken : n < limit → first_number limit (left_of text).words ≡ Some (n, (left_of rest).words)
  digits-taken below = rw (digits_left, reads-number text digits.count n digits.reads limit digits.some whole below) refl

-- ---- a number after blanks

-- the digits from a place on
pub number_from : (text : List ℕ) (at start end number : ℕ) → left_of (drop start text) ≡ left_of (drop at text) → start < end
    → Reads (drop start text) (end - start) number → BeginsWithNumber (drop at text) number (drop end text)
number_from text at start end number same some reads =
    let place : start + (end - start) ≡ end = omega (arith, some) in
    record {
      solid = drop start text;
      same = same;
      digits = record {
        count = end - start;
        some = omega (arith, some);
        reads = reads;
        follows = sym (drop-drop (end - start) start text ∙ ap (λ (k : ℕ). drop k text) place);
      };
    }

module _ (text rest : List ℕ) (number limit : ℕ) (begins : BeginsWithNumber text number rest) (ends : Ends rest) where
  pub number_taken : number < limit → first_number limit (left_of text).words ≡ Some (number, (left_of rest).words)
  number_taken below = rw begins.same at (digits-taken begins.solid rest number limit begins.digits ends below)

  pub number_later : (left_of rest).later ≡ (left_of text).later
  number_later = digits-later begins.solid rest number limit begins.digits ends ∙ ap (λ (left : Left). left.later) begins.same

-- and the line ends after it
module _ (text rest after : List ℕ) (number limit : ℕ) (begins : BeginsWithNumber text number rest) (line : EndsLine rest after) where
  pub last_taken : number < limit → first_number limit (left_of text).words ≡ Some (number, [])
  last_taken below = rw line.last at (number_taken text rest number limit begins line.ends below)

  pub last_later : word_lines after ≡ (left_of text).later
  last_later = line.later ∙ number_later text rest number limit begins line.ends
