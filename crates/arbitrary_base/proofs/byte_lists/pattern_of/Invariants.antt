use Rattle.std.proofs.Common.{◌≡◌, ◌≤◌, drop, length}
use Rattle.arbitrary_base.specs.ByteLists.{bytes_number}
use Rattle.arbitrary_base.proofs.byte_lists.pattern_of.Given as goal

abbrev pub invariant-loop-i : goal.invariant-loop-i
invariant-loop-i l = (l.pattern ≡ bytes_number (drop l.i l.list)) × (l.i ≤ length l.list)
