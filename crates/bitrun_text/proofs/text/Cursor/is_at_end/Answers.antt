use Rattle.std.proofs.Common.{◌∙◌, ap, length, eqb}
use Rattle.bitrun_text.specs.Text.{Left}
use Rattle.bitrun_text.proofs.Lines.{words-end}
use Rattle.bitrun_text.proofs.text.Cursor.is_at_end.Goals as goal

pub returns : goal.returns
returns c =
    words-end c.self.inside.rest.now c.without_blanks.result.now c.split_word.result.0.now c.split_word.result.1.now c.without_blanks.ensures c.split_word.ensures.word c.split_word.ensures.rest c.is_empty.result c.is_empty.ensures
    ∙ ap (λ (left : Left). eqb (length left.words) 0) c.self.view_is
