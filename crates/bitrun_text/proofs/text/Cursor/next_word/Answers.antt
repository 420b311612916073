use Rattle.std.proofs.Common.{ap, ◌∙◌, sym, arith, length, eqb-true, false-eqb}
use Rattle.bitrun_text.specs.Text.{Left}
use Rattle.bitrun_text.proofs.Lines.{word_taken, no_word_taken}
use Rattle.bitrun_text.proofs.text.Cursor.next_word.Goals as goal
use Rattle.bitrun_text.proofs.text.Cursor.next_word.Goals.{then-is_empty, else-is_empty}

pub returns-clause-word : goal.returns-clause-word
returns-clause-word c =
    let taken = word_taken c.self.inside.rest.now c.without_blanks.result.now c.split_word.result.0.now c.split_word.result.1.now c.without_blanks.ensures c.split_word.ensures.word c.split_word.ensures.rest in
    let none = no_word_taken c.self.inside.rest.now c.without_blanks.result.now c.split_word.result.0.now c.split_word.result.1.now c.without_blanks.ensures c.split_word.ensures.word c.split_word.ensures.rest in
    elim c.if-is_empty.branch [
      | then-is_empty w ↦
          let e = none (eqb-true _ _ (sym w.if-is_empty.ensures)) in
          rw w.result-is (ap (λ (left : Left). left.words) (sym c.self.view_is ∙ sym e.0) ∙ e.1, e.1)
      | else-is_empty w ↦
          let e = taken (omega (arith, false-eqb (length c.split_word.result.0.now) 0 w.if-is_empty.ensures)) in
          rw w.result-is (ap (λ (left : Left). left.words) (sym c.self.view_is ∙ e))
    ]

pub returns-clause-later : goal.returns-clause-later
returns-clause-later c =
    let taken = word_taken c.self.inside.rest.now c.without_blanks.result.now c.split_word.result.0.now c.split_word.result.1.now c.without_blanks.ensures c.split_word.ensures.word c.split_word.ensures.rest in
    let none = no_word_taken c.self.inside.rest.now c.without_blanks.result.now c.split_word.result.0.now c.split_word.result.1.now c.without_blanks.ensures c.split_word.ensures.word c.split_word.ensures.rest in
    elim c.if-is_empty.branch [
      | then-is_empty w ↦ ap (λ (left : Left). left.later) ((none (eqb-true _ _ (sym w.if-is_empty.ensures))).0 ∙ c.self.view_is)
      | else-is_empty w ↦ sym (ap (λ (left : Left). left.later) (sym c.self.view_is ∙ taken (omega (arith, false-eqb (length c.split_word.result.0.now) 0 w.if-is_empty.ensures))))
    ]
