-- The fields of a word as the seven fields of a struct.
use Rattle.std.specs.Prelude.{ℕ, ℤ, true, false, pos}
use Rattle.bit_fields.specs.BitField.{HasNumber}
use Rattle.laws_words.specs.declared.fields.Frame.{Frame}

-- the word has each field of the frame in its place
abbrev pub IsWritten : ℕ → Frame → Type 0
IsWritten word frame =
    HasNumber false word 0 1 frame.start × HasNumber false word 1 3 frame.kind × HasNumber false word 4 4 frame.channel × HasNumber false word 8 8 (pos frame.length)
    × HasNumber true word 16 12 frame.offset × HasNumber false word 28 20 frame.time × HasNumber true word 48 16 frame.level
