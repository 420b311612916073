use Rattle.std.proofs.Common.{◌∙◌, le_trans}
use Rattle.arbitrary_base.proofs.operations.PowerAndQuotient.{to_u128_bits-undone}
use Rattle.arbitrary_core.proofs.integer.unsigned.UIntNumbered.from_u128_bits.Goals as goal

pub returns-clause-undo : goal.returns-clause-undo
returns-clause-undo g c = λ y f d.
    to_u128_bits-undone g.T.Storage.SIGNED g.row.BITS _ _ y (c.requires.0) (le_trans c.requires.1 (g.met.T.Storage.width_law.1)) f d
    (c.new.ensures ∙ c.from_low_bits.ensures.value)
