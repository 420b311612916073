-- What the loop over a reader returns.
use Rattle.std.specs.Prelude.{ℕ, ◌<◌, Bool, List, length, Option, IfSome, IsTrue, ⊤}
use Rattle.bitrun_text.specs.declared.fault.Fault.{Fault}
use Rattle.bitrun_text.specs.declared.fault.Fault.TheVariants.{Line, TooLong, Memory, Read, Write}

-- the faults that reading can have, from the bytes that the reader had and its flag afterwards
abbrev pub ReadFault : Option (List ℕ) → Bool → Fault → Type 0
ReadFault held failed (Line k) = ⊥
ReadFault held failed TooLong = IfSome held (λ input. 65536 < length input)
ReadFault held failed Memory = ⊤
ReadFault held failed Read = IsTrue failed
ReadFault held failed Write = ⊥
