use Rattle.std.proofs.Common.{sym, subst}
use Rattle.std.specs.Io.KnownBytes.{WriteAppends}
use Rattle.arbitrary_base.proofs.watched.Watched.write.Goals as goal

pub returns-then-failed-clause-bytes : goal.returns-then-failed-clause-bytes
returns-then-failed-clause-bytes g c =
    subst (λ d. WriteAppends (g.D.Write.contents c.args.self.now.inner) (g.D.Write.contents d) c.write-outcome.result c.args.buf.now) (sym c.fails.ensures.inner) c.write-outcome.ensures.bytes
