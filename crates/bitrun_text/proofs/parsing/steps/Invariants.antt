use Rattle.std.proofs.Common.{length}
use Rattle.bitrun_text.specs.Form.{ReadSoFar}
use Rattle.bitrun_text.proofs.parsing.steps.Given as goal

abbrev pub invariant-loop-line : goal.invariant-loop-line
invariant-loop-line g l = ReadSoFar l.count l.fn.lines.later l.steps.items l.number l.line.later

abbrev pub decreases-loop-line : goal.decreases-loop-line
decreases-loop-line g l = length l.line.later
