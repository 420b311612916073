use Rattle.std.proofs.Common.{◌≡◌, ◌++◌, map, take}
use Rattle.std.specs.List.{flat_map}
use Rattle.bitrun_service.specs.Output.{after_space}
use Rattle.bitrun_service.proofs.printing.push_others.Given as goal

abbrev pub invariant-loop-register : goal.invariant-loop-register
invariant-loop-register g l = l.text.items ≡ l.fn.text.items ++ flat_map after_space (map g.R.Numbered.number (take l.register-index l.others))
