use Rattle.std.proofs.Common.{◌≡◌, ◌/◌, ◌*ℤ◌, ◌+◌, ℕ, arith, ap, le_of_eq, le_of_lt, lit≤, refl, sym, ◌∙◌}
use Rattle.std.specs.Prelude.{pos}
use Rattle.arbitrary_base.specs.Range.{InRange}
use Rattle.arbitrary_base.proofs.integers.Squaring.{Squaring, power-none, once, one-times, begun, begun-more, odd-turn, even-turn, last-turn, equal-numbers, half-less, idempotent-power, unit-odd, unit-even, room, room-again, spent, spent-again, product-beyond, square-beyond, last-product, one-in_range, InRange-equal}
use Rattle.arbitrary_base.proofs.power.exact_power.Goals as goal
use Rattle.arbitrary_base.proofs.power.exact_power.Goals.{then-exp-eq1, else-exp-eq1, then-exp-gt1+in_ok-square+else-equal+else-equal-2, else-exp-gt1, then-exp-eq1-2, else-exp-eq1-2, then-left-eq1+in_ok-product, else-left-eq1}

pub returns-then-exp-eq0-clause-value : goal.returns-then-exp-eq0-clause-value
returns-then-exp-eq0-clause-value g c = power-none _ _ _ c.one-product.ensures c.if-exp-eq0.true

-- ---- the first turn

pub multiply-requires : goal.multiply-requires
multiply-requires g c = record { width = le_of_lt c.requires.some; storage = c.requires.storage; x_in_range = c.requires.x_in_range; room = rw c.requires.started (lit≤ tt) }

pub returns-in_err-square-clause-counted : goal.returns-in_err-square-clause-counted
returns-in_err-square-clause-counted g c = spent _ _ (begun-more (g.T.Storage.number c.args.x) _ c.args.exp c.if-exp-gt1.true c.one-product.ensures) c.requires.started c.in_err-square.ensures.counted

pub returns-in_err-square-clause-value : goal.returns-in_err-square-clause-value
returns-in_err-square-clause-value g c =
    let n = g.T.Storage.number in
    let first = begun-more (n c.args.x) _ c.args.exp c.if-exp-gt1.true c.one-product.ensures in
    rw c.from_residual.ensures (square-beyond _ _ first c.if-exp-gt1.true c.requires.x_in_range c.in_err-square.ensures.product)

pub returns-then-equal-clause-value : goal.returns-then-equal-clause-value
returns-then-equal-clause-value g c =
    idempotent-power _ _ (le_of_lt c.if-exp-gt1.true) (sym c.in_ok-square.ensures.product.1 ∙ equal-numbers _ _ c.if-equal.ensures)

pub returns-then-equal-clause-counted : goal.returns-then-equal-clause-counted
returns-then-equal-clause-counted g c = spent _ _ (begun-more (g.T.Storage.number c.args.x) _ c.args.exp c.if-exp-gt1.true c.one-product.ensures) c.requires.started c.in_ok-square.ensures.counted

pub returns-then-equal-2-clause-value : goal.returns-then-equal-2-clause-value
returns-then-equal-2-clause-value g c =
    let n = g.T.Storage.number in
    let square = c.in_ok-square.ensures.product.1 in
    let one : n c.in_ok-square.square ≡ pos 1 = equal-numbers _ _ c.if-equal-2.ensures ∙ c.one-product.ensures in
    elim c.if-exp-eq1.branch [
      | then-exp-eq1 w ↦ ap n w.result-is ∙ unit-odd _ _ _ c.if-exp-gt1.true w.if-exp-eq1.true square one
      | else-exp-eq1 w ↦ ap n w.result-is ∙ unit-even _ _ _ c.if-exp-gt1.true w.if-exp-eq1.false square one
    ]

pub returns-then-equal-2-clause-counted : goal.returns-then-equal-2-clause-counted
returns-then-equal-2-clause-counted g c = spent _ _ (begun-more (g.T.Storage.number c.args.x) _ c.args.exp c.if-exp-gt1.true c.one-product.ensures) c.requires.started c.in_ok-square.ensures.counted

-- ---- the loop

pub loop-left-smaller : goal.loop-left-smaller
loop-left-smaller g c = half-less _ c.loop-left-test.true

pub loop-left-init : goal.loop-left-init
loop-left-init g c =
    let n = g.T.Storage.number in
    let one = c.one-product.ensures in
    let first = begun (n c.args.x) _ c.args.exp (omega arith) one in
    let one_in : InRange g.T.Storage.SIGNED c.args.bits (n c.one-product.result) = InRange-equal one (one-in_range _ _ c.requires.some) in
    elim c.if-exp-gt1.branch [
      | then-exp-gt1+in_ok-square+else-equal+else-equal-2 w ↦
          (let square = w.in_ok-square.ensures.product in
          let next : Squaring (n c.args.x) c.args.exp (n w.if-exp-eq1-2.product) (n w.in_ok-square.square) (c.args.exp / 2) w.multiply.new.count × InRange g.T.Storage.SIGNED c.args.bits (n w.if-exp-eq1-2.product) =
          elim w.if-exp-eq1-2.branch [
            | then-exp-eq1-2 v ↦ (
              odd-turn _ _ _ first w.if-exp-gt1.true v.if-exp-eq1-2.true (ap n v.product-is ∙ one-times _ _ one) square.1 (once _ _ 0 c.requires.started w.in_ok-square.ensures.counted),
              InRange-equal {x = n c.args.x} (ap n v.product-is) c.requires.x_in_range,
            )
            | else-exp-eq1-2 v ↦ (
              even-turn _ _ _ first w.if-exp-gt1.true v.if-exp-eq1-2.false (ap n v.product-is) square.1 (w.in_ok-square.ensures.counted ∙ ap (λ (k : ℕ). k + 1) c.requires.started),
              InRange-equal {x = n c.one-product.result} (ap n v.product-is) one_in,
            )
          ] in
          rw (w.count-is, w.product-is, w.base-is, w.left-is) record {
            squaring = next.0;
            product_in = next.1;
            base_in = InRange-equal {x = n c.args.x *ℤ n c.args.x} square.1 square.0;
          })
      | else-exp-gt1 w ↦ rw (w.count-is, w.product-is, w.base-is, w.left-is, c.requires.started) record { squaring = first; product_in = one_in; base_in = c.requires.x_in_range }
    ]

pub multiply-requires-in-loop-left : goal.multiply-requires-in-loop-left
multiply-requires-in-loop-left g c =
    let i = c.loop-left.invariant in record { width = le_of_lt c.requires.some; storage = c.requires.storage; x_in_range = i.base_in; room = room i.squaring c.ranges.exp.fits }

pub returns-in_err-square-2-clause-value : goal.returns-in_err-square-2-clause-value
returns-in_err-square-2-clause-value g c =
    let i = c.loop-left.invariant in
    rw c.from_residual-in_err-square-2.ensures (square-beyond _ _ i.squaring c.loop-left-test.true i.base_in c.in_err-square-2.ensures.product)

pub returns-in_err-square-2-clause-counted : goal.returns-in_err-square-2-clause-counted
returns-in_err-square-2-clause-counted g c = spent _ _ c.loop-left.invariant.squaring refl c.in_err-square-2.ensures.counted

pub multiply-requires-then-left-eq1 : goal.multiply-requires-then-left-eq1
multiply-requires-then-left-eq1 g c =
    let i = c.loop-left.invariant in record { width = le_of_lt c.requires.some; storage = c.requires.storage; x_in_range = i.product_in; room = room-again _ i.squaring c.ranges.exp.fits c.in_ok-square-2.ensures.counted }

pub returns-in_err-product-clause-value : goal.returns-in_err-product-clause-value
returns-in_err-product-clause-value g c =
    let i = c.loop-left.invariant in
    rw c.from_residual-in_err-product.ensures (product-beyond _ _ i.squaring i.product_in i.base_in c.in_err-product.ensures.product)

pub returns-in_err-product-clause-counted : goal.returns-in_err-product-clause-counted
returns-in_err-product-clause-counted g c = spent-again _ _ c.loop-left.invariant.squaring c.in_ok-square-2.ensures.counted c.in_err-product.ensures.counted

pub loop-left-preserved : goal.loop-left-preserved
loop-left-preserved g c =
    let i = c.loop-left.invariant in
    let n = g.T.Storage.number in
    let square = c.in_ok-square-2.ensures.product in
    let next : Squaring (n c.args.x) c.args.exp (n c.if-left-eq1.product) (n c.in_ok-square-2.square) (c.loop-left.left / 2) c.if-left-eq1.count × InRange g.T.Storage.SIGNED c.args.bits (n c.if-left-eq1.product) =
    elim c.if-left-eq1.branch [
      | then-left-eq1+in_ok-product w ↦
          (let product = w.in_ok-product.ensures.product in
          let is : n c.if-left-eq1.product ≡ n c.loop-left.product *ℤ n c.loop-left.base = rw w.product-is product.1 in (
            odd-turn _ _ _ i.squaring c.loop-left-test.true w.if-left-eq1.true is square.1 (le_of_eq (w.count-is ∙ w.in_ok-product.ensures.counted ∙ ap (λ (k : ℕ). k + 1) c.in_ok-square-2.ensures.counted)),
            InRange-equal {x = n c.loop-left.product *ℤ n c.loop-left.base} is product.0,
          ))
      | else-left-eq1 w ↦ (
        even-turn _ _ _ i.squaring c.loop-left-test.true w.if-left-eq1.false (ap n w.product-is) square.1 (w.count-is ∙ c.in_ok-square-2.ensures.counted),
        InRange-equal {x = n c.loop-left.product} (ap n w.product-is) i.product_in,
      )
    ] in
    record {
      squaring = next.0;
      product_in = next.1;
      base_in = InRange-equal {x = n c.loop-left.base *ℤ n c.loop-left.base} square.1 square.0;
    }

pub multiply-requires-2 : goal.multiply-requires-2
multiply-requires-2 g c =
    let i = c.loop-left.invariant in record { width = le_of_lt c.requires.some; storage = c.requires.storage; x_in_range = i.product_in; room = room i.squaring c.ranges.exp.fits }

pub returns-clause-value : goal.returns-clause-value
returns-clause-value g c =
    let i = c.loop-left.invariant in
    last-product g.T.Storage.number _ _ c.multiply-2.result i.squaring i.product_in i.base_in (last-turn i.squaring c.loop-left-test.false) c.multiply-2.ensures.product

pub returns-clause-counted : goal.returns-clause-counted
returns-clause-counted g c = spent _ _ c.loop-left.invariant.squaring refl c.multiply-2.ensures.counted
