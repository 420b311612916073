-- For `truncated` in src/truncation.rt: a signed type takes two shifts, and an unsigned one a mask.
use Rattle.std.proofs.Common.{sym, ◌∙◌}
use Rattle.arbitrary_base.proofs.modular.Truncation.{masked-number, InRange-of_wrap}
use Rattle.arbitrary_base.proofs.storages.RaisedNumber.{shifted-back}
use Rattle.arbitrary_base.proofs.truncation.truncated.Goals as goal

pub returns-then-SIGNED-clause-value : goal.returns-then-SIGNED-clause-value
returns-then-SIGNED-clause-value g c =
    shifted-back g.T.Storage.SIGNED c.args.bits g.T.Storage.WIDTH _ _ _ _ c.requires.width c.requires.storage c.WIDTH.ensures c.shl_by.ensures c.shr_by.ensures

pub returns-then-SIGNED-clause-result_in_range : goal.returns-then-SIGNED-clause-result_in_range
returns-then-SIGNED-clause-result_in_range g c = InRange-of_wrap g.T.Storage.SIGNED c.args.bits _ _ c.requires.width (returns-then-SIGNED-clause-value g c)

pub returns-else-SIGNED-clause-value : goal.returns-else-SIGNED-clause-value
returns-else-SIGNED-clause-value g c =
    masked-number g.T.Storage.SIGNED c.args.bits g.T.Storage.WIDTH _ _ _ _ (sym c.SIGNED.ensures ∙ c.if-SIGNED.false) c.requires.width c.requires.storage
    c.pattern.ensures.value c.masked.ensures c.from_pattern.ensures

pub returns-else-SIGNED-clause-result_in_range : goal.returns-else-SIGNED-clause-result_in_range
returns-else-SIGNED-clause-result_in_range g c = InRange-of_wrap g.T.Storage.SIGNED c.args.bits _ _ c.requires.width (returns-else-SIGNED-clause-value g c)
