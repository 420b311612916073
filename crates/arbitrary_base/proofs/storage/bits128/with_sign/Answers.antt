use Rattle.std.proofs.Common.{◌∙◌, Bool, sym, ap, to_z-of_z, pos}
use Rattle.std.specs.Prelude.{true, neg_ℤ, if◌then◌else◌}
use Rattle.std.specs.Int.{w128}
use Rattle.arbitrary_base.specs.Residue.{wrap}
use Rattle.arbitrary_base.proofs.storages.Primitive.{signed-from_small}
use Rattle.arbitrary_base.proofs.storage.bits128.with_sign.Goals as goal

pub returns-else-is_negative : goal.returns-else-is_negative
returns-else-is_negative c =
    to_z-of_z {w = w128} {z = c.cast_signed-else-is_negative.result} (record { sfits = c.cast_signed-else-is_negative.type_inv })
    ∙ c.cast_signed-else-is_negative.ensures ∙ signed-from_small w128 c.args.size c.ranges.size.fits
    ∙ ap (λ (b : Bool). wrap true 128 (if b then neg_ℤ (pos c.args.size) else pos c.args.size)) (sym c.if-is_negative.false)
