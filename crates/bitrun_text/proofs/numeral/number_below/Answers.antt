use Rattle.std.proofs.Common.{◌≡◌, ◌+◌, ◌-◌, ◌*◌, ◌^◌, ◌<◌, ◌≤◌, sym, ◌∙◌, refl, arith}
use Rattle.std.proofs.lemmas.Bool.{lt-ltb, le-ltb}
use Rattle.bitrun_text.proofs.Digits.{part_left, parts_read}
use Rattle.bitrun_text.proofs.numeral.number_below.Goals as goal

pub returns-then-end-eq0-clause-value : goal.returns-then-end-eq0-clause-value
returns-then-end-eq0-clause-value c =
    let high = c.digits-high.ensures in
    let low = c.digits-low.ensures in
    let front_end : c.digits-high.result.1 - 0 ≡ c.digits-high.result.1 = omega arith in
    let back_end : c.digits-low.result.1 - 0 ≡ c.digits-low.result.1 = omega arith in
    sym (part_left c.args.limit c.args.word.now _ _ _ c.requires c.saturating_sub.ensures c.split_at.ensures.front c.split_at.ensures.back _ _ _ _ (rw front_end at high.reads) (rw back_end at low.reads)
    high.stops low.stops c.then-end-eq0.either)

pub returns-then-number-limit-clause-value : goal.returns-then-number-limit-clause-value
returns-then-number-limit-clause-value c =
    let front_end : c.digits-high.result.1 - 0 ≡ c.digits-high.result.1 = omega arith in
    let back_end : c.digits-low.result.1 - 0 ≡ c.digits-low.result.1 = omega arith in
    let read = parts_read c.args.limit c.args.word.now _ _ _ c.requires c.saturating_sub.ensures c.split_at.ensures.front c.split_at.ensures.back _ _ _ _ (rw front_end at c.digits-high.ensures.reads) (rw back_end at c.digits-low.ensures.reads)
    (omega arith) (omega arith) in
    let below : c.digits-high.result.0 * 10 ^ 18 + c.digits-low.result.0 < c.args.limit = omega (arith, c.if-number-limit.true, c.from.ensures, c.from-2.ensures) in
    rw (c.from.ensures, c.from-2.ensures) (sym (read ∙ rw (lt-ltb _ _ below) refl))

pub returns-else-number-limit-clause-value : goal.returns-else-number-limit-clause-value
returns-else-number-limit-clause-value c =
    let front_end : c.digits-high.result.1 - 0 ≡ c.digits-high.result.1 = omega arith in
    let back_end : c.digits-low.result.1 - 0 ≡ c.digits-low.result.1 = omega arith in
    let read = parts_read c.args.limit c.args.word.now _ _ _ c.requires c.saturating_sub.ensures c.split_at.ensures.front c.split_at.ensures.back _ _ _ _ (rw front_end at c.digits-high.ensures.reads) (rw back_end at c.digits-low.ensures.reads)
    (omega arith) (omega arith) in
    let large : c.args.limit ≤ c.digits-high.result.0 * 10 ^ 18 + c.digits-low.result.0 = omega (arith, c.if-number-limit.false, c.from.ensures, c.from-2.ensures) in
    sym (read ∙ rw (le-ltb _ _ large) refl)
