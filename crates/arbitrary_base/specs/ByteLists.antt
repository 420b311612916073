-- Numbers as lists of bytes, the lowest byte first.
use Rattle.std.specs.Prelude.{ℕ, ◌+◌, ◌*◌, ◌<◌, ◌^◌, ◌≡◌, ℤ, pos, List, [], ◌∷◌, length}
use Rattle.std.specs.Int.{bytes_low_first, div_ceil}
use Rattle.arbitrary_base.specs.Residue.{residue}

-- the lowest n bytes of x in two's complement
unfoldable pub bytes : ℕ → ℤ → List ℕ
bytes n x = bytes_low_first 0 n (residue (8 * n) x)

-- the unsigned number with these bytes
abbrev pub bytes_number : List ℕ → ℕ
bytes_number [] = 0
bytes_number (b ∷ bs) = b + 256 * bytes_number bs

-- the bytes of x in a stream: those of its residue, as many as each number of the type needs
unfoldable pub BorshBytes : ℕ → ℤ → List ℕ
BorshBytes B x = bytes (div_ceil B 8) (pos (residue B x))

-- there are as many bytes as each number below 2 ^ B needs, and they represent such a number
pub record Canonical (B : ℕ) (bs : List ℕ) : Type 0 where
  pub long : length bs ≡ div_ceil B 8
  pub below : bytes_number bs < 2 ^ B
