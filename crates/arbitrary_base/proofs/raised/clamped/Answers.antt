use Rattle.std.proofs.Common.{arith, ℕ, ℤ, sym, subst, to_z-of_z}
use Rattle.std.specs.Int.{w64}
use Rattle.arbitrary_base.specs.Range.{InRange}
use Rattle.arbitrary_base.proofs.storages.Clamp.{clamp-InRange}
use Rattle.arbitrary_base.proofs.raised.clamped.Goals as goal

pub from_i64-requires : goal.from_i64-requires
from_i64-requires g c = record {
  x_in_range = subst (λ (v : ℤ). InRange g.T.Storage.SIGNED g.T.Storage.WIDTH v) (sym (to_z-of_z {w = w64} {z = c.clamped.result} (record { sfits = c.clamped.type_inv })))
      (subst (λ (k : ℕ). InRange g.T.Storage.SIGNED k c.clamped.result) c.WIDTH.ensures
      (clamp-InRange g.T.Storage.SIGNED c.WIDTH.result _ _ (omega (arith, c.WIDTH.ensures, g.met.T.Storage.width_law.0)) c.clamped.ensures));
}

pub lower-requires-clause-x_in_range : goal.lower-requires-clause-x_in_range
lower-requires-clause-x_in_range g c = subst (λ (v : ℤ). InRange g.T.Storage.SIGNED g.T.Storage.WIDTH v) (sym c.from_i64.ensures) (from_i64-requires g c.before).x_in_range
