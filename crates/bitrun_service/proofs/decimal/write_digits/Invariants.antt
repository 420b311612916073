use Rattle.std.proofs.Common.{◌≡◌, ◌+◌, ◌≤◌, ◌++◌, length, drop}
use Rattle.std.specs.Fmt.{decimal}
use Rattle.bitrun_service.proofs.decimal.write_digits.Given as goal

abbrev pub invariant-loop-left : goal.invariant-loop-left
invariant-loop-left l = record {
  fits : length (decimal l.left) ≤ l.at;
  within : l.at ≤ l.end;
  room : length l.buffer ≡ 40;
  start : l.at + length (decimal l.number) ≡ l.end + length (decimal l.left);
  digits : decimal l.left ++ drop l.at l.buffer ≡ decimal l.number ++ drop l.end l.fn.buffer;
}

abbrev pub decreases-loop-left : goal.decreases-loop-left
decreases-loop-left l = l.left
