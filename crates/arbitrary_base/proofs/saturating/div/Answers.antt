use Rattle.arbitrary_base.proofs.storages.Clamp.{clamp-InRange, clamp-in_range, div-saturates}
use Rattle.arbitrary_base.proofs.saturating.div.Goals as goal

pub returns-in-Some : goal.returns-in-Some
returns-in-Some g c =
    let e = clamp-in_range g.T.Storage.SIGNED c.args.bits _ _ c.in-Some.ensures.0 c.in-Some.ensures.1 in
    record { value = e; result_in_range = clamp-InRange _ _ _ _ c.requires.width e }

pub returns-in-None : goal.returns-in-None
returns-in-None g c =
    let e = div-saturates g.T.Storage.SIGNED c.args.bits _ _ _ c.requires.width c.requires.x_in_range c.requires.y_in_range c.in-None.ensures c.highest.ensures.value in
    record { value = e; result_in_range = clamp-InRange _ _ _ _ c.requires.width e }
