use Rattle.std.specs.Prelude.{◌≡◌}
use Rattle.std.specs.List.{fold}
use Rattle.arbitrary_core.proofs.totals.product_from.Given as goal

abbrev pub invariant-loop-item : goal.invariant-loop-item
invariant-loop-item g l = l.total ≡ fold g.S.Total.product l.initial.total l.yielded
