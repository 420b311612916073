use Rattle.std.proofs.Common.{refl}
use Rattle.arbitrary_base.proofs.modular.RoundTrip.{pattern-stays}
use Rattle.arbitrary_base.proofs.modular.Residue.{wrap-congruent, wrap-in_range}
use Rattle.arbitrary_core.proofs.signed.Int.from_bits.Goals as goal

pub invariant_of-result : goal.invariant_of-result
invariant_of-result g c = (
  c.requires.width,
  wrap-in_range g.T.Storage.SIGNED g.row.BITS _ (c.requires.width.0),
  pattern-stays g.T.Storage.SIGNED g.U.Storage.SIGNED g.row.BITS _ g.met.U.UnsignedStorage.unsigned_law (c.requires.width.0) c.requires.bits_in_range,
)

pub returns : goal.returns
returns g c = record {
  bits = pattern-stays _ _ _ _ g.met.U.UnsignedStorage.unsigned_law (c.requires.width.0) c.requires.bits_in_range;
  number = refl;
  congruent = wrap-congruent _ _ _;
}
