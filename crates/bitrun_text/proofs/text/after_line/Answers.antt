use Rattle.std.proofs.Common.{◌∙◌, refl, ap, length, drop, unwrap_or, arith, length-drop, drop-drop, take_all}
use Rattle.std.specs.List.{position_or_len}
use Rattle.bitrun_text.specs.Text.{ends_line}
use Rattle.bitrun_text.proofs.Lines.{place_found}
use Rattle.bitrun_text.proofs.text.after_line.Goals as goal

pub returns-in-len1-up : goal.returns-in-len1-up
returns-in-len1-up c =
    let text = c.args.text.now in
    let rest = c.split_at.result.1.now in
    let place = c.unwrap_or.ensures ∙ ap (λ o. unwrap_or o (length text)) c.line_end.ensures ∙ place_found ends_line text in
    take_all _ (drop 1 rest) (omega (arith, length-drop 1 rest)) ∙ rw (c.split_at.ensures.back, place, drop-drop 1 (position_or_len ends_line text) text) refl
