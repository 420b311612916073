use Rattle.std.specs.Prelude.{None}
use Rattle.arbitrary_base.proofs.LawProof.{last-partials}
use Rattle.arbitrary_base.proofs.laws.total_laws.Goals as goal

pub returns : goal.returns
returns c = λ op first l. last-partials op None first l
