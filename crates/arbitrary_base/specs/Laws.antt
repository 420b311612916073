-- The laws of wrapping and of bit lists, as statements. `laws` proves them.
use Rattle.std.specs.Prelude.{◌≡◌, ◌≢◌, ◌↔◌, ℕ, ℤ, Bool, List, Option, Some, None, pos, length, reverse, int_div, IsTrue, if◌then◌else◌, ◌∷◌, ◌++◌, ◌||◌, ◌+◌, ◌≤◌, ◌<◌, ◌+ℤ◌, ◌-ℤ◌, ◌*ℤ◌, false, ◌^◌, ◌<ℤ◌, ◌*◌, map, not, take, drop, SomeIff}
use Rattle.std.specs.Bool.{beq}
use Rattle.std.specs.Ordering.{int_eq}
use Rattle.arbitrary_base.specs.Range.{InRange, in_range, lo, hi}
use Rattle.arbitrary_base.specs.Residue.{Congruent, residue, wrap}
use Rattle.arbitrary_base.specs.Field.{field}
use Rattle.arbitrary_base.specs.Saturating.{clamp}
use Rattle.std.specs.List.{fold, last_or, scan, slice_rotate_right, count_by, prefix_len, suffix_len}
use Rattle.arbitrary_base.specs.BitList.{bits, val, bits_and, bits_or, bits_xor, shl, num}
use Rattle.arbitrary_base.specs.ByteLists.{bytes, bytes_number, BorshBytes, Canonical}

-- ---- what `wrap` is

abbrev pub WrapIsInRange : Type 0
WrapIsInRange = (s : Bool) (B : ℕ) (x : ℤ) → InRange s B (wrap s B x)

abbrev pub WrapIsCongruent : Type 0
WrapIsCongruent = (s : Bool) (B : ℕ) (x : ℤ) → Congruent B (wrap s B x) x

-- no other number of the type is congruent
abbrev pub WrapIsUnique : Type 0
WrapIsUnique = (s : Bool) (B : ℕ) (x y : ℤ) → 1 ≤ B → InRange s B y → Congruent B y x → y ≡ wrap s B x

abbrev pub WrapKeeps : Type 0
WrapKeeps = (s : Bool) (B : ℕ) (x : ℤ) → 1 ≤ B → InRange s B x → wrap s B x ≡ x

-- ---- the range, and the nearest number in it

abbrev pub TestTellsRange : Type 0
TestTellsRange = (s : Bool) (B : ℕ) (x : ℤ) → IsTrue (in_range s B x) ↔ InRange s B x

abbrev pub ClampKeeps : Type 0
ClampKeeps = (s : Bool) (B : ℕ) (x : ℤ) → InRange s B x → clamp s B x ≡ x

abbrev pub ClampEndsAbove : Type 0
ClampEndsAbove = (s : Bool) (B : ℕ) (x : ℤ) → 1 ≤ B → hi s B <ℤ x → clamp s B x ≡ hi s B

abbrev pub ClampEndsBelow : Type 0
ClampEndsBelow = (s : Bool) (B : ℕ) (x : ℤ) → x <ℤ lo s B → clamp s B x ≡ lo s B

-- ---- sums and products that wrap

abbrev pub WrappedSumsCommute : Type 0
WrappedSumsCommute = (s : Bool) (B : ℕ) (x y : ℤ) → wrap s B (x +ℤ y) ≡ wrap s B (y +ℤ x)

abbrev pub WrappedSumsAssociate : Type 0
WrappedSumsAssociate = (s : Bool) (B : ℕ) (x y z : ℤ) → wrap s B (wrap s B (x +ℤ y) +ℤ z) ≡ wrap s B (x +ℤ wrap s B (y +ℤ z))

abbrev pub WrappedProductsCommute : Type 0
WrappedProductsCommute = (s : Bool) (B : ℕ) (x y : ℤ) → wrap s B (x *ℤ y) ≡ wrap s B (y *ℤ x)

abbrev pub WrappedProductsAssociate : Type 0
WrappedProductsAssociate = (s : Bool) (B : ℕ) (x y z : ℤ) → wrap s B (wrap s B (x *ℤ y) *ℤ z) ≡ wrap s B (x *ℤ wrap s B (y *ℤ z))

abbrev pub WrappedProductsDistribute : Type 0
WrappedProductsDistribute = (s : Bool) (B : ℕ) (x y z : ℤ) → wrap s B (x *ℤ wrap s B (y +ℤ z)) ≡ wrap s B (wrap s B (x *ℤ y) +ℤ wrap s B (x *ℤ z))

-- ---- checked and overflowing results

-- a checked result is the wrapped number, and none exactly if there is an overflow
abbrev pub CheckedTellsOverflow : Type 0
CheckedTellsOverflow = (s : Bool) (B : ℕ) (x : ℤ) (checked : Option ℤ) (wrapped : ℤ) (overflow : Bool) → 1 ≤ B
    → SomeIff checked (InRange s B x) x → wrapped ≡ wrap s B x → (IsTrue overflow ↔ ¬ (InRange s B x))
    → checked ≡ (if overflow then None else Some wrapped)

-- a checked quotient is the wrapped one, and none exactly if the divisor is zero or there is an overflow
abbrev pub CheckedQuotientTellsOverflow : Type 0
CheckedQuotientTellsOverflow = (s : Bool) (B : ℕ) (x y : ℤ) (checked : Option ℤ) (wrapped : ℤ) (overflow : Bool) → 1 ≤ B
    → SomeIff checked ((y ≢ pos 0) × InRange s B (int_div x y)) (int_div x y)
    → (y ≢ pos 0 → (wrapped ≡ wrap s B (int_div x y)) × (IsTrue overflow ↔ ¬ (InRange s B (int_div x y))))
    → checked ≡ (if int_eq y (pos 0) || overflow then None else Some wrapped)

-- ---- bit lists and the numbers that have them

abbrev pub LengthOfBits : Type 0
LengthOfBits = (B : ℕ) (x : ℤ) → length (bits B x) ≡ B

abbrev pub NumberOfBits : Type 0
NumberOfBits = (B : ℕ) (x : ℤ) → num (bits B x) ≡ residue B x

abbrev pub ValueOfBits : Type 0
ValueOfBits = (s : Bool) (B : ℕ) (x : ℤ) → 1 ≤ B → InRange s B x → val s (bits B x) ≡ x

abbrev pub BitsOfValue : Type 0
BitsOfValue = (s : Bool) (B : ℕ) (l : List Bool) → length l ≡ B → bits B (val s l) ≡ l

abbrev pub RotationsUndo : Type 0
RotationsUndo = (l : List Bool) (k : ℕ) → k ≤ length l → drop k (slice_rotate_right l k) ++ take k (slice_rotate_right l k) ≡ l

abbrev pub ReversalUndoesItself : Type 0
ReversalUndoesItself = (l : List Bool) → reverse (reverse l) ≡ l

abbrev pub OnesAddUp : Type 0
OnesAddUp = (l : List Bool) → count_by (λ b. b) l + count_by (λ b. b) (map not l) ≡ length l

abbrev pub FrontRunsFit : Type 0
FrontRunsFit = (b : Bool) (l : List Bool) → prefix_len (beq b) l ≤ length l

abbrev pub EndRunsFit : Type 0
EndRunsFit = (b : Bool) (l : List Bool) → suffix_len (beq b) l ≤ length l

-- items t .. t + A - 1 of items s .. s + B - 1 are items s + t .. s + t + A - 1
abbrev pub ExtractionComposes : Type 0
ExtractionComposes = (s t A B : ℕ) (l : List Bool) → t + A ≤ B → take A (drop t (take B (drop s l))) ≡ take A (drop (s + t) l)

-- a field of a word of W bits is the number that is extracted from it
abbrev pub FieldIsExtracted : Type 0
FieldIsExtracted = (W start width word : ℕ) → 1 ≤ width → start + width ≤ W → word < 2 ^ W
    → val false (take width (drop start (bits W (pos word)))) ≡ field word start width

-- ---- between two widths: s and A are the sign and the width of the narrow type, t and B those of the wide one

abbrev pub SumsKeepLowBits : Type 0
SumsKeepLowBits = (s t : Bool) (A B : ℕ) (x y : ℤ) → 1 ≤ A → A ≤ B
    → wrap s A (wrap t B (x +ℤ y)) ≡ wrap s A (wrap s A x +ℤ wrap s A y)

abbrev pub DifferencesKeepLowBits : Type 0
DifferencesKeepLowBits = (s t : Bool) (A B : ℕ) (x y : ℤ) → 1 ≤ A → A ≤ B
    → wrap s A (wrap t B (x -ℤ y)) ≡ wrap s A (wrap s A x -ℤ wrap s A y)

abbrev pub ProductsKeepLowBits : Type 0
ProductsKeepLowBits = (s t : Bool) (A B : ℕ) (x y : ℤ) → 1 ≤ A → A ≤ B
    → wrap s A (wrap t B (x *ℤ y)) ≡ wrap s A (wrap s A x *ℤ wrap s A y)

abbrev pub AndKeepsLowBits : Type 0
AndKeepsLowBits = (s t : Bool) (A B : ℕ) (x y : ℤ) → 1 ≤ A → A ≤ B
    → wrap s A (val t (bits_and (bits B x) (bits B y))) ≡ val s (bits_and (bits A (wrap s A x)) (bits A (wrap s A y)))

abbrev pub OrKeepsLowBits : Type 0
OrKeepsLowBits = (s t : Bool) (A B : ℕ) (x y : ℤ) → 1 ≤ A → A ≤ B
    → wrap s A (val t (bits_or (bits B x) (bits B y))) ≡ val s (bits_or (bits A (wrap s A x)) (bits A (wrap s A y)))

abbrev pub XorKeepsLowBits : Type 0
XorKeepsLowBits = (s t : Bool) (A B : ℕ) (x y : ℤ) → 1 ≤ A → A ≤ B
    → wrap s A (val t (bits_xor (bits B x) (bits B y))) ≡ val s (bits_xor (bits A (wrap s A x)) (bits A (wrap s A y)))

abbrev pub ComplementsKeepLowBits : Type 0
ComplementsKeepLowBits = (s t : Bool) (A B : ℕ) (x : ℤ) → 1 ≤ A → A ≤ B
    → wrap s A (val t (map not (bits B x))) ≡ val s (map not (bits A (wrap s A x)))

-- the amount is below the narrow width
abbrev pub LeftShiftsKeepLowBits : Type 0
LeftShiftsKeepLowBits = (s t : Bool) (A B k : ℕ) (x : ℤ) → A ≤ B → k < A
    → wrap s A (val t (shl (bits B x) k)) ≡ val s (shl (bits A (wrap s A x)) k)

-- ---- bytes, and the numbers that have them

abbrev pub ByteReversalUndoesItself : Type 0
ByteReversalUndoesItself = (l : List ℕ) → reverse (reverse l) ≡ l

-- the number of the bytes of a number is that number
abbrev pub ValueOfBytes : Type 0
ValueOfBytes = (s : Bool) (n : ℕ) (x : ℤ) → 1 ≤ n → InRange s (8 * n) x → wrap s (8 * n) (pos (bytes_number (bytes n x))) ≡ x

-- no two numbers share their bytes
abbrev pub BytesAreUnique : Type 0
BytesAreUnique = (s : Bool) (n : ℕ) (x y : ℤ) → 1 ≤ n → InRange s (8 * n) x → InRange s (8 * n) y → bytes n x ≡ bytes n y → x ≡ y

abbrev pub BorshIsCanonical : Type 0
BorshIsCanonical = (B : ℕ) (x : ℤ) → Canonical B (BorshBytes B x)

abbrev pub ValueOfBorsh : Type 0
ValueOfBorsh = (s : Bool) (B : ℕ) (x : ℤ) → 1 ≤ B → InRange s B x → wrap s B (pos (bytes_number (BorshBytes B x))) ≡ x

abbrev pub BorshIsUnique : Type 0
BorshIsUnique = (s : Bool) (B : ℕ) (x y : ℤ) → 1 ≤ B → InRange s B x → InRange s B y → BorshBytes B x ≡ BorshBytes B y → x ≡ y

-- ---- sums and products of many numbers

-- the total of all items is the last of the partial results
abbrev pub TotalIsTheLastPartial : Type 0
TotalIsTheLastPartial = (op : ℤ → ℤ → ℤ) (first : ℤ) (l : List ℤ) → last_or None (first ∷ scan op op first l) ≡ Some (fold op first l)

-- ---- a number and its pattern

-- the truncation of the pattern of a number is the number
abbrev pub NumberOfPattern : Type 0
NumberOfPattern = (s : Bool) (B : ℕ) (x : ℤ) → 1 ≤ B → InRange s B x → wrap s B (pos (residue B x)) ≡ x

-- the pattern of the truncation of a pattern is the pattern
abbrev pub PatternOfNumber : Type 0
PatternOfNumber = (s : Bool) (B p : ℕ) → 1 ≤ B → p < 2 ^ B → residue B (wrap s B (pos p)) ≡ p

-- a number and its pattern have the same bits
abbrev pub BitsOfPattern : Type 0
BitsOfPattern = (B : ℕ) (x : ℤ) → bits B (pos (residue B x)) ≡ bits B x
