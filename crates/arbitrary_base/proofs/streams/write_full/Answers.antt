use Rattle.std.proofs.Common.{◌<◌, arith, subst, take, take_all, ◌-◌, length, drop, length-take, length-drop}
use Rattle.std.specs.Io.KnownBytes.{Appends}
use Rattle.arbitrary_base.proofs.bytes.StreamSteps.{written_more, none_failed, failed_after, on_ok-of_err, on_err, begun_keeps}
use Rattle.arbitrary_base.proofs.streams.write_full.Goals as goal

pub loop-at-preserved : goal.loop-at-preserved
loop-at-preserved g c =
    let text = c.args.bytes.now in (
      written_more _ _ _ text c.loop-at.at c.in_ok-count.count c.loop-at.invariant.0 c.in_ok-count.ensures.bytes,
      omega (arith, c.in_ok-count.ensures.bound, length-take (length text - c.loop-at.at) (drop c.loop-at.at text), length-drop c.loop-at.at text),
      none_failed c.args.writer.now c.loop-at.writer c.write.new.self c.loop-at.invariant.2 (c.in_ok-count.ensures.no_failure (λ e. absurd (c.if-count-eq0.false e))),
    )

pub returns-in_err-count : goal.returns-in_err-count
returns-in_err-count g c =
    let begun = begun_keeps _ _ (g.W.Write.contents c.write.new.self.inner) c.args.bytes.now c.loop-at.at c.loop-at.invariant.0 c.in_err-count.ensures.bytes in
    let f = failed_after c.args.writer.now c.loop-at.writer c.write.new.self c.loop-at.invariant.2 c.in_err-count.ensures.raised in
    record { all = on_ok-of_err _ _ c.from_residual.ensures.0; no_failure = on_ok-of_err _ _ c.from_residual.ensures.0; begun = on_err _ begun; failed = on_err _ f }

pub returns-then-count-eq0 : goal.returns-then-count-eq0
returns-then-count-eq0 g c =
    let text = c.args.bytes.now in
    let some : 0 < length (take (length text - c.loop-at.at) (drop c.loop-at.at text)) = omega (arith, c.loop-at-test.true, length-take (length text - c.loop-at.at) (drop c.loop-at.at text), length-drop c.loop-at.at text) in
    record {
      all = tt;
      no_failure = tt;
      begun = (_, written_more _ _ _ text c.loop-at.at c.in_ok-count.count c.loop-at.invariant.0 c.in_ok-count.ensures.bytes);
      failed = failed_after c.args.writer.now c.loop-at.writer c.write.new.self c.loop-at.invariant.2 (c.in_ok-count.ensures.took_nothing c.if-count-eq0.true some);
    }

pub returns : goal.returns
returns g c = record {
  all = subst (Appends (g.W.Write.contents c.args.writer.now.inner) (g.W.Write.contents c.loop-at.writer.inner)) (take_all c.loop-at.at c.args.bytes.now c.loop-at-test.false) c.loop-at.invariant.0;
  no_failure = c.loop-at.invariant.2;
  begun = tt;
  failed = tt;
}
