-- The number that digits write. Numbers.antt has the number with which a text begins.
use Rattle.std.proofs.Common.{◌≡◌, ◌≢◌, ℕ, zero, suc, ◌+◌, ◌-◌, ◌*◌, ◌^◌, ◌<◌, ◌≤◌, ◌⊎◌, min, true, false, ◌&&◌, if◌then◌else◌, nat_lt, List, [], ◌∷◌, ◌++◌, length, take, drop, get_or, Some, None, refl, sym, ap, ◌∙◌, arith, ltb, inl, inr, mul_assoc, mul_comm, length-take, length-drop, take_all}
use Rattle.std.specs.Char.{is_ascii_digit, digit_value}
use Rattle.std.specs.Str.{all_ascii_digits}
use Rattle.std.specs.Str.Parse.{digits_value, digits_value_after}
use Rattle.std.proofs.lemmas.Bool.{lt-ltb, le-ltb, and_from, cases_Bool, cases_lt}
use Rattle.std.proofs.lemmas.Bool.Decides.{nat_tests}
use Rattle.std.proofs.lemmas.Str.Parse.{digits_value-take-le, digits_value_short, numerals_by_value, tells_all_ascii_digits}
use Rattle.std.proofs.Math.Bool.{and-false, and_assoc}
use Rattle.std.proofs.Math.Nat.{add-mul, pow-suc}
use Rattle.std.proofs.lemmas.List.{nil_from_length, take-append-drop}
use Rattle.bitrun_text.specs.Text.{has_items}
use Rattle.bitrun_text.specs.Numeral.{number_in, number_below}
use Rattle.bitrun_text.specs.Fast.{Reads}
use Rattle.bitrun_text.proofs.Lines.{some_items}

-- the value of a digit
pub digit_is : (c : ℕ) → is_ascii_digit c ≡ true → digit_value c ≡ c - 48
digit_is c e = grind (arith, nat_tests)

pub all_digits : (word : List ℕ) → ((k : ℕ) → k < length word → is_ascii_digit (get_or word k 0) ≡ true) → all_ascii_digits word ≡ true
all_digits [] h = refl
all_digits (c ∷ cs) h = rw (h 0 (omega arith)) (all_digits cs (λ k lt. h (suc k) (omega arith)))

pub other_byte : (word : List ℕ) (i : ℕ) → i < length word → is_ascii_digit (get_or word i 0) ≡ false → all_ascii_digits word ≡ false
other_byte [] i lt e = absurd (omega arith)
other_byte (c ∷ cs) zero lt e = rw e refl
other_byte (c ∷ cs) (suc i) lt e = rw (other_byte cs i (omega arith) e) (and-false (is_ascii_digit c))

pub no_digits : (limit : ℕ) (word : List ℕ) → length word ≡ 0 → number_below limit word ≡ None
unfolding number_below number_in
no_digits limit word e = rw (nil_from_length word e) refl

pub not_digits : (limit : ℕ) (word : List ℕ) → all_ascii_digits word ≡ false → number_below limit word ≡ None
unfolding number_below number_in
not_digits limit word e = rw (e, and-false (has_items word)) refl

pub too_large : (limit : ℕ) (word : List ℕ) (i : ℕ) → limit ≤ digits_value 10 (take i word) → number_below limit word ≡ None
unfolding number_below number_in
too_large limit word i h =
    let large : ltb (digits_value 10 word) limit ≡ false = le-ltb _ _ (omega (arith, digits_value-take-le 10 word i (omega arith))) in
    elim (cases_Bool (has_items word && all_ascii_digits word)) [
      | inl digits ↦ rw (digits, large) refl
      | inr other ↦ rw other refl
    ]

pub is_number : (limit : ℕ) (word : List ℕ) → 0 < length word → all_ascii_digits word ≡ true → digits_value 10 word < limit → number_below limit word ≡ Some (digits_value 10 word)
unfolding number_below number_in
is_number limit word some digits below =
    rw (and_from (has_items word) (all_ascii_digits word) (some_items word some) digits, lt-ltb (digits_value 10 word) limit below) refl

-- ---- a word in two parts

digits_joined : (front back : List ℕ) → all_ascii_digits (front ++ back) ≡ (all_ascii_digits front && all_ascii_digits back)
digits_joined [] back = refl
digits_joined (c ∷ cs) back = rw (digits_joined cs back) (sym (and_assoc (is_ascii_digit c) (all_ascii_digits cs) (all_ascii_digits back)))

value_after : (n : ℕ) (front back : List ℕ) → digits_value_after 10 n (front ++ back) ≡ digits_value_after 10 (digits_value_after 10 n front) back
value_after n [] back = refl
value_after n (c ∷ cs) back = value_after (n * 10 + digit_value c) cs back

value_scaled : (n : ℕ) (ds : List ℕ) → digits_value_after 10 n ds ≡ n * 10 ^ length ds + digits_value 10 ds
value_scaled n [] = omega arith
value_scaled n (c ∷ cs) =
    let scale = 10 ^ length cs in
    let d = digit_value c in
    rw (pow-suc 10 (length cs)) (omega (arith, value_scaled (n * 10 + d) cs, value_scaled (0 * 10 + d) cs, add-mul (n * 10) d scale, add-mul (0 * 10) d scale, mul_assoc n 10 scale, mul_comm 10 scale))

-- why no number below the limit of a part is there
stopped : (part : List ℕ) → 0 < length part → number_below 1844674407370955161 part ≡ None
    → ((all_ascii_digits part ≡ true) × (1844674407370955161 ≤ digits_value 10 part)) ⊎ (all_ascii_digits part ≡ false)
stopped part some none = elim (cases_Bool (all_ascii_digits part)) [
  | inl digits ↦ elim (cases_lt (digits_value 10 part) 1844674407370955161) [
    | inl below ↦ absurd (let number = is_number 1844674407370955161 part some digits below in cc)
    | inr large ↦ inl (digits, large)
  ]
  | inr other ↦ inr other
]

-- the second part has at most 18 bytes, and all of these where the first has any
module _ (limit : ℕ) (word front back : List ℕ) (cut : ℕ) (fits : limit ≤ 2 ^ 120) (place : cut ≡ length word - 18) (first : front ≡ take cut word) (second : back ≡ drop cut word) where
  lengths : (length front ≡ length word - 18) × (length back ≡ min 18 (length word))
  lengths =
      let long = ap length first ∙ length-take cut word in
      let rest = ap length second ∙ length-drop cut word in
      (omega (arith, place, long), omega (arith, place, rest))

  joined : word ≡ front ++ back
  joined = rw (first, second) (sym (take-append-drop cut word))

  joined_value : digits_value 10 word ≡ digits_value 10 front * 10 ^ 18 + digits_value 10 back
  joined_value =
      let value = ap (digits_value 10) joined ∙ value_after 0 front back ∙ value_scaled (digits_value 10 front) back in
      elim (cases_lt 0 (length front)) [
        | inl some ↦ (let full : length back ≡ 18 = omega (arith, lengths.0, lengths.1, some) in rw full at value)
        | inr none ↦ (let empty = nil_from_length front (omega (arith, none)) in rw empty (rw empty at value ∙ omega arith))
      ]

  module _ (high low front_end back_end : ℕ) (front_reads : Reads front front_end high) (back_reads : Reads back back_end low) where
    -- some byte of the word is left, or there is none
    pub part_left : (front_end < length front → number_below 1844674407370955161 front ≡ None) → (back_end < length back → number_below 1844674407370955161 back ≡ None)
        → (front_end + back_end ≡ 0) ⊎ ((front_end + back_end ≢ 0) × (front_end + back_end < length word)) → number_below limit word ≡ None
    part_left front_stops back_stops left = elim (cases_lt 0 (length word)) [
      | inl some ↦
          let less : front_end + back_end < length word = elim left [ inl none ↦ omega (arith, some, none) | inr less ↦ less.1 ] in
          elim (cases_lt front_end (length front)) [
            | inl before ↦ elim (stopped front (omega (arith, before)) (front_stops before)) [
              | inl large ↦ too_large limit word (length word) (rw (take_all (length word) word (omega arith)) (omega (arith, joined_value, large.1, fits)))
              | inr other ↦ not_digits limit word (rw (joined, digits_joined front back, other) refl)
            ]
            | inr all ↦
                let before : back_end < length back = omega (arith, less, all, lengths.0, lengths.1) in
                elim (stopped back (omega (arith, before)) (back_stops before)) [
                  | inl large ↦
                      let small = digits_value_short (numerals_by_value (λ ds. all_ascii_digits ds ≡ true) tells_all_ascii_digits) back 18 large.0 (omega (arith, lengths.1)) in
                      absurd (omega (arith, small, large.1))
                  | inr other ↦ not_digits limit word (rw (joined, digits_joined front back, other) (and-false (all_ascii_digits front)))
                ]
          ]
      | inr none ↦ no_digits limit word (omega (arith, none))
    ]

    pub parts_read : 0 < length word → length word ≤ front_end + back_end
        → number_below limit word ≡ (if nat_lt (high * 10 ^ 18 + low) limit then Some (high * 10 ^ 18 + low) else None)
    unfolding number_below number_in
    parts_read some all =
        let front_all : front_end ≡ length front = omega (arith, all, lengths.0, lengths.1, front_reads.within, back_reads.within) in
        let back_all : back_end ≡ length back = omega (arith, all, lengths.0, lengths.1, front_reads.within, back_reads.within) in
        let front_value : high ≡ digits_value 10 front = front_reads.value ∙ ap (digits_value 10) (take_all front_end front (omega (arith, front_all))) in
        let back_value : low ≡ digits_value 10 back = back_reads.value ∙ ap (digits_value 10) (take_all back_end back (omega (arith, back_all))) in
        let front_digits = all_digits front (λ k lt. front_reads.digits k (omega (arith, lt, front_all))) in
        let back_digits = all_digits back (λ k lt. back_reads.digits k (omega (arith, lt, back_all))) in
        let digits : all_ascii_digits word ≡ true = rw (joined, digits_joined front back, front_digits) back_digits in
        rw (some_items word some, digits, joined_value, front_value, back_value) refl
