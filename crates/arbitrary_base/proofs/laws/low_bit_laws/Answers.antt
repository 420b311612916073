use Rattle.arbitrary_base.proofs.modular.LowBitOperation.{low-sum, low-difference, low-product, low-and, low-or, low-xor, low-not, low-shl}
use Rattle.arbitrary_base.proofs.laws.low_bit_laws.Goals as goal

pub returns : goal.returns
returns c = record {
  sums = low-sum;
  differences = low-difference;
  products = low-product;
  and = low-and;
  or = low-or;
  xor = low-xor;
  complements = low-not;
  left_shifts = low-shl;
}
