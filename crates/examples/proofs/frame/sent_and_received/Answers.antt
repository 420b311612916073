use Rattle.std.proofs.Common.{rules, ◌∙◌}
use Rattle.examples.proofs.Frames.{fields-of_sum}
use Rattle.examples.specs.Network.{network_number}
use Rattle.examples.proofs.frame.sent_and_received.Goals as goal

pub returns : goal.returns
returns c =
    let frame = c.args.frame in
    let e = fields-of_sum (network_number c.encode.result) frame.identifier frame.length frame.first frame.second (search rules) (search rules) (search rules) (search rules) c.encode.ensures in
    let at_identifier = c.decode.ensures.identifier ∙ e.0 in
    let at_length = c.decode.ensures.length ∙ e.1 in
    let at_first = c.decode.ensures.first ∙ e.2 in
    let at_second = c.decode.ensures.second ∙ e.3 in
    λ i. record { identifier = at_identifier i; length = at_length i; first = at_first i; second = at_second i }
