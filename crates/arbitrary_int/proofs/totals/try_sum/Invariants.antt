use Rattle.std.specs.Prelude.{◌≡◌, ◌+ℤ◌, pos, map}
use Rattle.std.specs.List.{fold}
use Rattle.arbitrary_int.specs.Totals.{PartialsFit}
use Rattle.arbitrary_int.proofs.totals.try_sum.Given as goal

abbrev pub invariant-loop-item : goal.invariant-loop-item
invariant-loop-item g l =
    PartialsFit g.V.Numbered.IS_SIGNED g.V.Numbered.BITS (λ a b. a +ℤ b) (pos 0) (map g.V.Numbered.number l.yielded)
    × (g.V.Numbered.number l.total ≡ fold (λ a b. a +ℤ b) (pos 0) (map g.V.Numbered.number l.yielded))
