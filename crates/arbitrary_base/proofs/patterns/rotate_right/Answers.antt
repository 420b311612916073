use Rattle.std.proofs.Common.{◌∙◌, ℕ, sym, ap, pos}
use Rattle.arbitrary_base.specs.BitList.{bits, num}
use Rattle.arbitrary_base.proofs.bit_lists.Movement.{rotr}
use Rattle.arbitrary_base.proofs.bit_lists.CodeOnPatterns.{rotr_pattern, rotr_pattern_zero}
use Rattle.arbitrary_base.proofs.patterns.rotate_right.Goals as goal

pub returns-then-places-eq0 : goal.returns-then-places-eq0
returns-then-places-eq0 c = rotr_pattern_zero _ _ _ c.requires.fits (sym c.places-places.ensures.value ∙ c.if-places-eq0.true)

pub returns-else-width-eq128 : goal.returns-else-width-eq128
returns-else-width-eq128 c =
    rotr_pattern _ _ c.places-places.result _ c.requires.high c.requires.fits c.places-places.ensures.within c.low_mask.ensures.value
    ∙ ap (λ (k : ℕ). num (rotr (bits c.args.width (pos c.args.pattern)) k)) c.places-places.ensures.value
