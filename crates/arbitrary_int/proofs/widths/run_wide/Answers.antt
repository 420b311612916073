use Rattle.std.proofs.Common.{map, arith}
use Rattle.std.proofs.lemmas.List.{length-map}
use Rattle.arbitrary_int.proofs.LowBitRuns.{low-registers, low-ending}
use Rattle.arbitrary_int.proofs.widths.run_wide.Goals as goal

pub returns-clause-low_run : goal.returns-clause-low_run
returns-clause-low_run g c within low =
    let n = g.W.Numbered.number in
    let e = length-map c.args.wide.now n in
    low-registers g.N.Numbered.IS_SIGNED g.W.Numbered.IS_SIGNED g.N.Numbered.BITS g.W.Numbered.BITS c.args.steps.now (map n c.args.wide.now) _ _
    (rw e c.requires.well_formed) (λ some. c.narrow_all.ensures.width (omega (arith, e))) within low c.run-ending.ensures.registers c.narrow_all.ensures.low

pub returns-clause-low_ending : goal.returns-clause-low_ending
returns-clause-low_ending g c within low =
    let n = g.W.Numbered.number in
    let e = length-map c.args.wide.now n in
    low-ending g.N.Numbered.IS_SIGNED g.W.Numbered.IS_SIGNED g.N.Numbered.BITS g.W.Numbered.BITS c.args.steps.now (map n c.args.wide.now) _
    (rw e c.requires.well_formed) (λ some. c.narrow_all.ensures.width (omega (arith, e))) within low c.run-ending.ensures.ending
