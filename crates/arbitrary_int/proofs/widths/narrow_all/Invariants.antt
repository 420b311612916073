use Rattle.std.proofs.Common.{◌≡◌, ◌<◌, ◌≤◌, map, length, take}
use Rattle.arbitrary_base.specs.Residue.{wrap}
use Rattle.arbitrary_int.proofs.widths.narrow_all.Given as goal

abbrev pub invariant-loop-at : goal.invariant-loop-at
invariant-loop-at g l = record {
  same_length : length l.wide ≡ length l.narrow;
  low : map g.N.Numbered.number (take l.at l.narrow) ≡ map (wrap g.N.Numbered.IS_SIGNED g.N.Numbered.BITS) (map g.W.Numbered.number (take l.at l.wide));
  width : 0 < l.at → 1 ≤ g.N.Numbered.BITS;
}
