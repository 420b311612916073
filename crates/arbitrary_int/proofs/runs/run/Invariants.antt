use Rattle.std.proofs.Common.{◌≡◌, length, map, drop}
use Rattle.arbitrary_int.specs.Runs.{RunOf}
use Rattle.arbitrary_int.proofs.RunLemmas.{delayed}
use Rattle.arbitrary_int.proofs.runs.run.Given as goal

abbrev pub invariant-loop-at : goal.invariant-loop-at
invariant-loop-at g l = record {
  same_length : length l.registers ≡ length l.initial.registers;
  rest : RunOf g.R.Numbered.IS_SIGNED g.R.Numbered.BITS l.steps (map g.R.Numbered.number l.initial.registers)
      ≡ delayed l.at (RunOf g.R.Numbered.IS_SIGNED g.R.Numbered.BITS (drop l.at l.steps) (map g.R.Numbered.number l.registers));
}
