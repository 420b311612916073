use Rattle.arbitrary_base.proofs.LawProof.{sums-commute, sums-associate, products-commute, products-associate, products-distribute}
use Rattle.arbitrary_base.proofs.laws.wrapped_arithmetic_laws.Goals as goal

pub returns : goal.returns
returns c = record {
  sums_commute = sums-commute;
  sums_associate = sums-associate;
  products_commute = products-commute;
  products_associate = products-associate;
  products_distribute = products-distribute;
}
