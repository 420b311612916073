use Rattle.std.proofs.Common.{sym, ap, ◌∙◌, ◌++◌, map, append_assoc}
use Rattle.std.specs.List.{join_with_byte}
use Rattle.std.specs.Fmt.{signed_decimal}
use Rattle.bitrun_service.proofs.Joined.{join-cons}
use Rattle.bitrun_service.proofs.printing.push_registers.Goals as goal

pub returns-in_ok-push_others-in-Some : goal.returns-in_ok-push_others-in-Some
returns-in_ok-push_others-in-Some g c =
    let number = g.R.Numbered.number in
    rw (c.in_ok-push_others-in-Some.ensures, c.in_ok-push_register-in-Some.ensures, append_assoc)
    (sym (ap (λ t. c.args.text.now.items ++ t) (ap (λ l. join_with_byte 32 (map signed_decimal (map number l))) c.in-Some.ensures.cases.0 ∙ join-cons (number c.in-Some.first.now) (map number c.in-Some.others.now))))
