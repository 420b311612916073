use Rattle.arbitrary_base.specs.Range.{InRange}
use Rattle.arbitrary_base.proofs.integers.Squaring.{Squaring}
use Rattle.arbitrary_base.proofs.power.exact_power.Given as goal

abbrev pub invariant-loop-left : goal.invariant-loop-left
invariant-loop-left g l =
    let n = g.T.Storage.number in
    record {
      squaring : Squaring (n l.fn.x) l.exp (n l.product) (n l.base) l.left l.count;
      product_in : InRange g.T.Storage.SIGNED l.bits (n l.product);
      base_in : InRange g.T.Storage.SIGNED l.bits (n l.base);
    }

abbrev pub decreases-loop-left : goal.decreases-loop-left
decreases-loop-left g l = l.left
