use Rattle.std.proofs.Common.{[], append-nil}
use Rattle.bitrun_text.proofs.parsing.registers.Goals as goal

pub returns-clause-values : goal.returns-clause-values
returns-clause-values g c =
    let h = c.loop-word.invariant.values [] (rw c.in_default.ensures.word.0 tt) in
    rw append-nil at h
