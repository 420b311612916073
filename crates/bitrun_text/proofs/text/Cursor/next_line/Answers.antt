use Rattle.std.proofs.Common.{ap, ◌∙◌, sym}
use Rattle.bitrun_text.specs.Text.{Left}
use Rattle.bitrun_text.proofs.Lines.{line_passed}
use Rattle.bitrun_text.proofs.text.Cursor.next_line.Goals as goal

pub returns : goal.returns
returns c =
    ap (λ (left : Left). left.later) (sym c.self.view_is)
    ∙ line_passed c.self.inside.rest.now c.after_line-self-inside.result.now c.is_empty.result c.after_line-self-inside.ensures c.is_empty.ensures
