use Rattle.std.proofs.Common.{refl, sym, ◌∙◌}
use Rattle.arbitrary_core.proofs.Widening.{kept}
use Rattle.arbitrary_core.proofs.conversions.signed.fitted.Goals as goal

pub returns : goal.returns
returns g c =
    let one_sign = g.met.S.SignedStorage.signed_law ∙ sym g.met.T.SignedStorage.signed_law in
    let room = g.met.S.FitsIn.fits_law in
    kept _ _ g.S.Storage.WIDTH g.row.BITS _ _ _ one_sign (g.met.S.Storage.width_law.0) room c.requires refl (c.new.ensures ∙ c.cast.ensures.value)
