use Rattle.std.specs.Int.{w16}
use Rattle.std.proofs.Common.{to_z-of_z}
use Rattle.arbitrary_base.proofs.modular.Truncation.{InRange-signed}
use Rattle.arbitrary_traits.proofs.numbered.Numbered.as_i16.Goals as goal

pub returns : goal.returns
returns g c =
    let a = c.as_.ensures in
    rw (to_z-of_z {w = w16} {z = c.as_.result} (record { sfits = c.as_.type_inv })) (record {
      value = a.value;
      exact = a.exact;
      wider = λ l. a.exact (InRange-signed _ _ 16 _ (g.met.Self.Numbered.width_law a.width).0 l a.self_in_range);
      as_wide = a.as_wide;
      narrower = λ l. a.congruent;
      congruent = a.congruent;
      congruent_to = λ y d. a.congruent_to y;
      self_in_range = a.self_in_range;
      width = a.width;
    })
