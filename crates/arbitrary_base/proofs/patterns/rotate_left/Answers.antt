use Rattle.std.proofs.Common.{◌∙◌, ℕ, sym, ap, pos}
use Rattle.std.specs.List.{slice_rotate_right}
use Rattle.arbitrary_base.specs.BitList.{bits, num}
use Rattle.arbitrary_base.proofs.bit_lists.CodeOnPatterns.{rotl_pattern, rotl_pattern_zero}
use Rattle.arbitrary_base.proofs.patterns.rotate_left.Goals as goal

pub returns-then-places-eq0 : goal.returns-then-places-eq0
returns-then-places-eq0 c = rotl_pattern_zero _ _ _ c.requires.fits (sym c.places-places.ensures.value ∙ c.if-places-eq0.true)

pub returns-else-width-eq128 : goal.returns-else-width-eq128
returns-else-width-eq128 c =
    rotl_pattern _ _ c.places-places.result _ c.requires.high c.requires.fits c.places-places.ensures.within c.low_mask.ensures.value
    ∙ ap (λ (k : ℕ). num (slice_rotate_right (bits c.args.width (pos c.args.pattern)) k)) c.places-places.ensures.value
