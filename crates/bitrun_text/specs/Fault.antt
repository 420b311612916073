-- The text and the status of a fault.
use Rattle.std.specs.Prelude.{ℕ, List, ◌++◌, codes, decimal}
use Rattle.bitrun_text.specs.declared.fault.Fault.{Fault}
use Rattle.bitrun_text.specs.declared.fault.Fault.TheVariants.{Line, TooLong, Memory, Read, Write}

abbrev pub fault_row : Fault → List ℕ × ℕ
fault_row (Line k) = (codes "fault: line " ++ decimal k, 2)
fault_row TooLong = (codes "fault: too long", 2)
fault_row Memory = (codes "fault: memory", 3)
fault_row Read = (codes "fault: read", 4)
fault_row Write = (codes "fault: write", 5)
