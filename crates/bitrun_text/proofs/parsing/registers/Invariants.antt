use Rattle.std.proofs.Common.{◌≡◌, ℤ, List, ◌++◌, length, map}
use Rattle.std.specs.List.{AllZip}
use Rattle.bitrun_text.specs.Form.{IsValue, HasRegistersForm}
use Rattle.bitrun_text.proofs.parsing.registers.Given as goal

abbrev pub invariant-loop-word : goal.invariant-loop-word
invariant-loop-word g l = record {
  values : (others : List ℤ) → AllZip (IsValue g.R.Numbered.IS_SIGNED g.R.Numbered.BITS) l.line.words others
      → AllZip (IsValue g.R.Numbered.IS_SIGNED g.R.Numbered.BITS) l.fn.line.words (map g.R.Numbered.number l.registers.items ++ others);
  form : HasRegistersForm g.R.Numbered.IS_SIGNED g.R.Numbered.BITS l.fn.line.words → HasRegistersForm g.R.Numbered.IS_SIGNED g.R.Numbered.BITS l.line.words;
  later : l.line.later ≡ l.fn.line.later;
}

abbrev pub decreases-loop-word : goal.decreases-loop-word
decreases-loop-word g l = length l.line.words
