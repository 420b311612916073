use Rattle.std.proofs.Common.{◌≡◌, ◌+◌, ◌-◌, drop, ap, ◌∙◌, arith, drop-drop}
use Rattle.bitrun_text.proofs.FastLines.{blank_ends, line_named}
use Rattle.bitrun_text.proofs.fast.fast_line.Goals as goal

pub returns-clause-step : goal.returns-clause-step
returns-clause-step c =
    let text = c.args.text.now in
    let at = c.args.at in
    let n = c.in_ok-operation in
    let line = c.in_ok-step in
    let size = n.name - at in
    let place : at + size ≡ n.name = omega (arith, n.ensures.order) in
    let there : drop size (drop at text) ≡ drop n.name text = drop-drop size at text ∙ ap (λ k. drop k text) place in
    line_named c.args.count (drop at text) (drop line.end text) size n.operation line.step (rw there (blank_ends text n.name n.ensures.within n.ensures.blank)) n.ensures.name
    (rw there line.ensures.step) (rw there line.ensures.later)
