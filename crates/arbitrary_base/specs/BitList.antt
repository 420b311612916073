-- Numbers as lists of bits, the lowest bit first.
use Rattle.std.specs.Prelude.{ℕ, zero, suc, ◌+◌, ◌-◌, ◌*◌, ◌%◌, Bool, false, not, ◌&&◌, ◌||◌, ◌==◌, if◌then◌else◌, List, [], ◌∷◌, ◌++◌, map, length, get_or, take, drop, replicate, ℤ, pos, unsigned_abs}
use Rattle.std.specs.Bool.{beq}
use Rattle.std.specs.Int.{int_div_euclid}
use Rattle.std.specs.List.{zip}
use Rattle.arbitrary_base.specs.Residue.{wrap}

-- the lowest k bits of x in two's complement: whether x is odd, then the bits of its half, rounded down
unfoldable pub bits : ℕ → ℤ → List Bool
bits zero x = []
bits (suc k) x = (unsigned_abs x % 2 == 1) ∷ bits k (int_div_euclid x (pos 2))

-- the unsigned number with these bits
abbrev pub num : List Bool → ℕ
num [] = 0
num (b ∷ l) = (if b then 1 else 0) + 2 * num l

-- the number with these bits, at the width of their count; s is true if the type is signed
unfoldable pub val : Bool → List Bool → ℤ
val s l = wrap s (length l) (pos (num l))

-- ---- item by item

abbrev pub bits_and : List Bool → List Bool → List Bool
bits_and l m = map (λ (p : Bool × Bool). p.0 && p.1) (zip l m)

abbrev pub bits_or : List Bool → List Bool → List Bool
bits_or l m = map (λ (p : Bool × Bool). p.0 || p.1) (zip l m)

abbrev pub bits_xor : List Bool → List Bool → List Bool
bits_xor l m = map (λ (p : Bool × Bool). not (beq p.0 p.1)) (zip l m)

-- ---- shifts and rotations

-- k zeros, then l without its last k items
abbrev pub shl : List Bool → ℕ → List Bool
shl l k = replicate k false ++ take (length l - k) l

-- l without its first k items, then f repeated k times
abbrev pub shr : List Bool → ℕ → Bool → List Bool
shr l k f = drop k l ++ replicate k f

-- the bit that a right shift brings in: the last item, which is the sign, for a signed type, and otherwise 0
abbrev pub fill : Bool → List Bool → Bool
fill s l = s && get_or l (length l - 1) false
