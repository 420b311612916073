use Rattle.std.proofs.Common.{refl, sym, subst, ◌∙◌}
use Rattle.std.specs.Io.KnownBytes.{ReadConsumes}
use Rattle.arbitrary_base.specs.Watched.{NoFailure}
use Rattle.arbitrary_base.proofs.bytes.StreamSteps.{on_ok, on_ok-of_err, on_err, on_err-of_ok}
use Rattle.arbitrary_base.proofs.watched.Watched.read.Goals as goal

pub returns-then-is_err : goal.returns-then-is_err
returns-then-is_err g c = record {
  bound = c.read-outcome.ensures.bound;
  bytes = subst (λ d. ReadConsumes (g.D.Read.remaining c.args.self.now.inner) (g.D.Read.remaining d) c.read-outcome.result c.read-outcome.new.buf) (sym c.fails.ensures.inner) c.read-outcome.ensures.bytes;
  no_failure = on_ok-of_err _ _ (sym c.is_err.ensures.value ∙ c.if-is_err.true);
  raised = on_err _ c.fails.ensures.failure;
}

pub returns-else-is_err : goal.returns-else-is_err
returns-else-is_err g c =
    let old = c.args.self.now in
    let same : NoFailure old (record { inner = c.read-outcome.new.self; failed = old.failed; failures = old.failures }) = (refl, refl) in
    record {
      bound = c.read-outcome.ensures.bound;
      bytes = c.read-outcome.ensures.bytes;
      no_failure = on_ok _ same;
      raised = on_err-of_ok _ _ (sym c.is_err.ensures.value ∙ c.if-is_err.false);
    }
