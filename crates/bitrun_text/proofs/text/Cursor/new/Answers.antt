use Rattle.std.proofs.Common.{sym, arith, length, eqb-true, false-eqb}
use Rattle.bitrun_text.proofs.Lines.{no_line, left-line}
use Rattle.bitrun_text.proofs.text.Cursor.new.Goals as goal

pub returns-then-is_empty : goal.returns-then-is_empty
returns-then-is_empty c = no_line c.args.text.now (eqb-true _ _ (sym c.if-is_empty.ensures))

pub returns-else-is_empty : goal.returns-else-is_empty
returns-else-is_empty c = left-line c.args.text.now (omega (arith, false-eqb (length c.args.text.now) 0 c.if-is_empty.ensures))
