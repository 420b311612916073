-- Bytes in network order.
use Rattle.std.specs.Prelude.{ℕ, List, reverse}
use Rattle.arbitrary_int.specs.ByteLists.{bytes_number}

-- the number that has these bytes, the highest first
abbrev pub network_number : List ℕ → ℕ
network_number list = bytes_number (reverse list)
