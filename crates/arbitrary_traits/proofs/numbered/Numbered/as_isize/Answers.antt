use Rattle.std.specs.Int.{w64}
use Rattle.std.proofs.Common.{to_z-of_z}
use Rattle.arbitrary_traits.proofs.numbered.Numbered.as_isize.Goals as goal

pub returns : goal.returns
returns g c = rw (to_z-of_z {w = w64} {z = c.as_i64.result} (record { sfits = c.as_i64.type_inv })) c.as_i64.ensures
