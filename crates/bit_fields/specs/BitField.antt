-- Fields in a word of 128 bits, and lists of puts into such fields. `Field` of `arbitrary_base` has the number of
-- one field of any word.
use Rattle.std.specs.Prelude.{◌≡◌, ℕ, ◌+◌, ◌-◌, ◌≤◌, ◌<◌, ◌^◌, ℤ, Bool, false, List, [], ◌∷◌, length, take, drop, get_or, pos, All, AllPairs, Contains, IsPermutation}
use Rattle.std.specs.List.{fold, replace_range}
use Rattle.arbitrary_int.specs.BitList.{bits, num, val}

-- the bits of the field of `width` bits from bit `start` on
unfoldable pub field_bits : ℕ → ℕ → ℕ → List Bool
field_bits word start width = take width (drop start (bits 128 (pos word)))

-- the word with the bits of l from bit `start` on, and its own other bits
unfoldable pub with_field : ℕ → ℕ → List Bool → ℕ
with_field word start l = num (replace_range (bits 128 (pos word)) start (start + length l) l)

-- the field of `width` bits from bit `start` on is this number; s is true for a signed field
abbrev pub HasNumber : Bool → ℕ → ℕ → ℕ → ℤ → Type 0
HasNumber s word start width x = val s (field_bits word start width) ≡ x

unfoldable pub bit_of : ℕ → ℕ → Bool
bit_of word i = get_or (bits 128 (pos word)) i false

-- bit i is one of the `width` bits from bit `start` on
abbrev pub IsInField : ℕ → ℕ → ℕ → Type 0
IsInField start width i = (start ≤ i) × (i < start + width)

-- no bit is in both fields
abbrev pub AreDisjoint : ℕ → ℕ → ℕ → ℕ → Type 0
AreDisjoint start width other_start other_width = (i : ℕ) → IsInField start width i → ¬ (IsInField other_start other_width i)

-- ---- one put

-- a bit of the field is that of the list
abbrev pub PutSetsItsBits : Type 0
PutSetsItsBits = (word start : ℕ) (l : List Bool) (i : ℕ) → start + length l ≤ 128 → IsInField start (length l) i
    → bit_of (with_field word start l) i ≡ get_or l (i - start) false

-- no other bit changes
abbrev pub PutKeepsOtherBits : Type 0
PutKeepsOtherBits = (word start : ℕ) (l : List Bool) (i : ℕ) → start + length l ≤ 128 → ¬ (IsInField start (length l) i)
    → bit_of (with_field word start l) i ≡ bit_of word i

-- you read back what was put
abbrev pub FieldAfterPut : Type 0
FieldAfterPut = (word start : ℕ) (l : List Bool) → start + length l ≤ 128 → field_bits (with_field word start l) start (length l) ≡ l

-- ---- lists of puts

-- bits, and the place at which they are put
pub record Put : Type 0 where
  pub start : ℕ
  pub bits : List Bool

abbrev pub IsInBounds : Put → Type 0
IsInBounds put = put.start + length put.bits ≤ 128

-- the word after these puts, in this order
abbrev pub after_puts : ℕ → List Put → ℕ
after_puts word puts = fold (λ now put. with_field now put.start put.bits) word puts

-- a bit of one of the fields is that of the list that was put there
abbrev pub PutsSetTheirBits : Type 0
PutsSetTheirBits = (word : ℕ) (puts : List Put) (put : Put) (i : ℕ) → All IsInBounds puts
    → AllPairs (λ p q. AreDisjoint p.start (length p.bits) q.start (length q.bits)) puts → Contains puts put
    → IsInField put.start (length put.bits) i → bit_of (after_puts word puts) i ≡ get_or put.bits (i - put.start) false

-- a bit of no field does not change
abbrev pub PutsKeepOtherBits : Type 0
PutsKeepOtherBits = (word : ℕ) (puts : List Put) (i : ℕ) → All IsInBounds puts
    → All (λ put. ¬ (IsInField put.start (length put.bits) i)) puts
    → bit_of (after_puts word puts) i ≡ bit_of word i

-- you read from each field what was put there, whatever was put into the others before and after
abbrev pub FieldAfterPuts : Type 0
FieldAfterPuts = (word : ℕ) (puts : List Put) (put : Put) → All IsInBounds puts
    → AllPairs (λ p q. AreDisjoint p.start (length p.bits) q.start (length q.bits)) puts → Contains puts put
    → field_bits (after_puts word puts) put.start (length put.bits) ≡ put.bits

-- the order of the puts does not matter
abbrev pub PutsInAnyOrder : Type 0
PutsInAnyOrder = (word : ℕ) (puts others : List Put) → word < 2 ^ 128 → All IsInBounds puts
    → AllPairs (λ p q. AreDisjoint p.start (length p.bits) q.start (length q.bits)) puts → IsPermutation puts others
    → after_puts word puts ≡ after_puts word others

abbrev pub DisjointPutsCommute : Type 0
DisjointPutsCommute = (word : ℕ) (p q : Put) → IsInBounds p → IsInBounds q → AreDisjoint p.start (length p.bits) q.start (length q.bits)
    → after_puts word (p ∷ q ∷ []) ≡ after_puts word (q ∷ p ∷ [])
