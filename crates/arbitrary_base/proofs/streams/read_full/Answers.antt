use Rattle.std.proofs.Common.{◌-◌, arith, drop, inl, length, length-drop, length-take, subst, take_all}
use Rattle.std.specs.Io.KnownBytes.{Consumes}
use Rattle.arbitrary_base.proofs.bytes.StreamSteps.{read_more, room_left, none_failed, failed_after, on_ok-of_err, on_err, if_some, short_input}
use Rattle.arbitrary_base.proofs.streams.read_full.Goals as goal

pub loop-at-preserved : goal.loop-at-preserved
loop-at-preserved g c =
    let new = c.read.new.buf in
    let within = c.in_ok-count.ensures.bound.0 in (
      read_more _ _ _ c.loop-at.buf new _ c.loop-at.at c.in_ok-count.count c.loop-at.invariant.1 within c.loop-at.invariant.0 c.in_ok-count.ensures.bytes.0,
      room_left c.loop-at.buf new _ c.loop-at.at c.in_ok-count.count c.loop-at.invariant.1 within,
      none_failed c.args.reader.now c.loop-at.reader c.read.new.self c.loop-at.invariant.2 c.in_ok-count.ensures.no_failure,
    )

pub returns-in_err-count : goal.returns-in_err-count
returns-in_err-count g c =
    let f = failed_after c.args.reader.now c.loop-at.reader c.read.new.self c.loop-at.invariant.2 c.in_err-count.ensures.raised in
    record { all = on_ok-of_err _ _ c.from_residual.ensures.0; no_failure = on_ok-of_err _ _ c.from_residual.ensures.0; why = on_err _ (if_some _ (λ held. inl f)) }

pub returns-then-count-eq0 : goal.returns-then-count-eq0
returns-then-count-eq0 g c =
    let bytes = c.in_ok-count.ensures.bytes in
    let end = bytes.1 c.if-count-eq0.true (omega (arith, c.read.auto.buf, length-take (length c.loop-at.buf - c.loop-at.at) (drop c.loop-at.at c.loop-at.buf), length-drop c.loop-at.at c.loop-at.buf)) in
    let why = short_input _ _ _ _ c.loop-at.buf c.read.new.buf c.loop-at.at c.in_ok-count.count _ c.loop-at.invariant.0 bytes.0 c.if-count-eq0.true end c.loop-at-test.true c.loop-at.auto.buf in
    record { all = tt; no_failure = tt; why = why }

pub returns : goal.returns
returns g c = record {
  all = subst (Consumes (g.R.Read.remaining c.args.reader.now.inner) (g.R.Read.remaining c.loop-at.reader.inner)) (take_all c.loop-at.at c.loop-at.buf c.loop-at-test.false) c.loop-at.invariant.0;
  no_failure = c.loop-at.invariant.2;
  why = tt;
}
