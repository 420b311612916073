use Rattle.std.proofs.Common.{◌≡◌, ◌<◌, ◌∷◌, length, refl, Some, sym, ◌-◌, [], ap, append-nil, add-zero, arith, ◌∙◌, eqb-true, false-eqb}
use Rattle.bitrun_text.specs.Text.{word_lines}
use Rattle.bitrun_text.specs.Operation.{step_named}
use Rattle.bitrun_text.proofs.Lines.{left-line, no_line}
use Rattle.bitrun_text.proofs.StepLines.{after_blank, after_step, bad-fault, lines_after}
use Rattle.bitrun_text.proofs.parsing.steps.Goals as goal

pub fast_steps-rest-requires : goal.fast_steps-rest-requires
fast_steps-rest-requires g c =
    let count = c.args.count in
    let all = c.args.lines.now.later in
    let so_far = lines_after count all c.loop-line.steps.items c.loop-line.number c.text-in-loop-line.result.now c.after_line.result.now c.loop-line.line c.text-in-loop-line.ensures c.after_line.ensures c.loop-line.invariant in
    omega (arith, so_far.counted, c.requires)

pub returns-then-is_empty-clause-found : goal.returns-then-is_empty-clause-found
returns-then-is_empty-clause-found g c =
    let count = c.args.count in
    let all = c.args.lines.now.later in
    let so_far = lines_after count all c.loop-line.steps.items c.loop-line.number c.text-in-loop-line.result.now c.after_line.result.now c.loop-line.line c.text-in-loop-line.ensures c.after_line.ensures c.loop-line.invariant in
    let read = c.fast_steps-rest.ensures.read all so_far in
    let none = no_line c.fast_steps-rest.result.now (eqb-true _ _ (sym c.if-is_empty.ensures)) in
    let found = read.found [] (rw none tt) in
    rw append-nil at found

pub returns-then-is_empty-clause-within : goal.returns-then-is_empty-clause-within
returns-then-is_empty-clause-within g c =
    let count = c.args.count in
    let all = c.args.lines.now.later in
    let so_far = lines_after count all c.loop-line.steps.items c.loop-line.number c.text-in-loop-line.result.now c.after_line.result.now c.loop-line.line c.text-in-loop-line.ensures c.after_line.ensures c.loop-line.invariant in
    (c.fast_steps-rest.ensures.read all so_far).within

pub overflow_add-number : goal.overflow_add-number
overflow_add-number g c =
    let count = c.args.count in
    let all = c.args.lines.now.later in
    let so_far = lines_after count all c.loop-line.steps.items c.loop-line.number c.text-in-loop-line.result.now c.after_line.result.now c.loop-line.line c.text-in-loop-line.ensures c.after_line.ensures c.loop-line.invariant in
    let read = c.fast_steps-rest.ensures.read all so_far in
    omega (arith, read.counted, c.requires)

pub loop-line-smaller-in_default : goal.loop-line-smaller-in_default
loop-line-smaller-in_default g c =
    let count = c.args.count in
    let all = c.args.lines.now.later in
    let so_far = lines_after count all c.loop-line.steps.items c.loop-line.number c.text-in-loop-line.result.now c.after_line.result.now c.loop-line.line c.text-in-loop-line.ensures c.after_line.ensures c.loop-line.invariant in
    let read = c.fast_steps-rest.ensures.read all so_far in
    let rest = c.fast_steps-rest.result.now in
    let next = c.go_to.new.self in
    let taken : word_lines rest ≡ next.words ∷ next.later = rw c.go_to.ensures (left-line rest (omega (arith, false-eqb (length rest) 0 c.if-is_empty.ensures))) in
    let fewer : length next.later < length c.loop-line.line.later = omega (arith, c.loop-line.invariant.counted, read.counted, c.fast_steps-rest.ensures.order, ap length taken) in
    fewer

pub loop-line-preserved-in_default : goal.loop-line-preserved-in_default
loop-line-preserved-in_default g c =
    let count = c.args.count in
    let all = c.args.lines.now.later in
    let so_far = lines_after count all c.loop-line.steps.items c.loop-line.number c.text-in-loop-line.result.now c.after_line.result.now c.loop-line.line c.text-in-loop-line.ensures c.after_line.ensures c.loop-line.invariant in
    let read = c.fast_steps-rest.ensures.read all so_far in
    let rest = c.fast_steps-rest.result.now in
    let next = c.go_to.new.self in
    let taken : word_lines rest ≡ next.words ∷ next.later = rw c.go_to.ensures (left-line rest (omega (arith, false-eqb (length rest) 0 c.if-is_empty.ensures))) in
    after_blank count (word_lines rest) next.later next.later next.words taken refl _ _ _ read (rw c.copy-words.ensures at c.in_default.ensures.word.0)

pub returns-in_default-step_named-clause-fault : goal.returns-in_default-step_named-clause-fault
returns-in_default-step_named-clause-fault g c =
    let count = c.args.count in
    let all = c.args.lines.now.later in
    let so_far = lines_after count all c.loop-line.steps.items c.loop-line.number c.text-in-loop-line.result.now c.after_line.result.now c.loop-line.line c.text-in-loop-line.ensures c.after_line.ensures c.loop-line.invariant in
    let read = c.fast_steps-rest.ensures.read all so_far in
    let rest = c.fast_steps-rest.result.now in
    let next = c.go_to.new.self in
    let taken : word_lines rest ≡ next.words ∷ next.later = rw c.go_to.ensures (left-line rest (omega (arith, false-eqb (length rest) 0 c.if-is_empty.ensures))) in
    let bad = bad-fault count (word_lines rest) next.later c.next_word.new.self.later next.words taken (rw c.copy-words.ensures at c.in-Some.ensures.later) c.in-Some.word.now c.next_word.new.self.words (rw c.copy-words.ensures at c.in-Some.ensures.word) c.in_default-step_named.ensures.step in
    let k = read.fault 0 bad in
    (c.fast_steps-rest.new.number - 2, omega (arith, read.start), rw add-zero at k)

pub loop-line-smaller : goal.loop-line-smaller
loop-line-smaller g c =
    let count = c.args.count in
    let all = c.args.lines.now.later in
    let so_far = lines_after count all c.loop-line.steps.items c.loop-line.number c.text-in-loop-line.result.now c.after_line.result.now c.loop-line.line c.text-in-loop-line.ensures c.after_line.ensures c.loop-line.invariant in
    let read = c.fast_steps-rest.ensures.read all so_far in
    let rest = c.fast_steps-rest.result.now in
    let next = c.go_to.new.self in
    let taken : word_lines rest ≡ next.words ∷ next.later = rw c.go_to.ensures (left-line rest (omega (arith, false-eqb (length rest) 0 c.if-is_empty.ensures))) in
    let e = c.in-Some-step_named.ensures in
    let same : c.step_named.new.operands.later ≡ next.later = rw c.copy-words.ensures at (e.later ∙ c.in-Some.ensures.later) in
    let fewer : length c.step_named.new.operands.later < length c.loop-line.line.later = omega (arith, ap length same, c.loop-line.invariant.counted, read.counted, c.fast_steps-rest.ensures.order, ap length taken) in
    fewer

pub loop-line-preserved : goal.loop-line-preserved
loop-line-preserved g c =
    let count = c.args.count in
    let all = c.args.lines.now.later in
    let so_far = lines_after count all c.loop-line.steps.items c.loop-line.number c.text-in-loop-line.result.now c.after_line.result.now c.loop-line.line c.text-in-loop-line.ensures c.after_line.ensures c.loop-line.invariant in
    let read = c.fast_steps-rest.ensures.read all so_far in
    let rest = c.fast_steps-rest.result.now in
    let next = c.go_to.new.self in
    let taken : word_lines rest ≡ next.words ∷ next.later = rw c.go_to.ensures (left-line rest (omega (arith, false-eqb (length rest) 0 c.if-is_empty.ensures))) in
    let e = c.in-Some-step_named.ensures in
    let same : c.step_named.new.operands.later ≡ next.later = rw c.copy-words.ensures at (e.later ∙ c.in-Some.ensures.later) in
    let names : Some c.in-Some-step_named.step ≡ step_named count next.words = rw c.copy-words.ensures at (e.step ∙ ap (step_named count) (sym c.in-Some.ensures.word)) in
    rw c.in_ok-push.ensures.items
    (after_step count (word_lines rest) next.later c.step_named.new.operands.later next.words taken same _ _ _ read c.in-Some-step_named.step names e.within)
