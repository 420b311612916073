use Rattle.std.specs.Int.{w64}
use Rattle.std.proofs.Common.{ℕ, ◌<◌, arith, not-le_of_lt, subst, sym, ◌∙◌, to_z-of_z}
use borrow.Author.Tests.{ltb-true}
use Rattle.arbitrary_base.proofs.modular.Truncation.{InRange-wider}
use Rattle.arbitrary_base.proofs.storages.SpareBit.{equal-determines, flag-exact, flag-none, none-out_of_range, product-determines}
use Rattle.arbitrary_base.proofs.checked.mul.Goals as goal
use Rattle.arbitrary_base.proofs.checked.mul.Goals.{then-bits-WIDTH, else-bits-WIDTH}

pub from_i64-requires : goal.from_i64-requires
from_i64-requires g c = record {
  x_in_range = InRange-wider g.T.Storage.SIGNED c.args.bits g.T.Storage.WIDTH _ c.requires.width c.requires.storage (c.is_number_of.ensures.0 c.if-is_number_of.true);
}

pub returns-then-overflow : goal.returns-then-overflow
returns-then-overflow g c = flag-none g.T.Storage.SIGNED c.args.bits _ _ c.mul-product.ensures.overflow c.if-overflow.true

pub returns-else-overflow : goal.returns-else-overflow
returns-else-overflow g c = flag-exact g.T.Storage.SIGNED c.args.bits _ _ _ c.requires.width c.mul-product.ensures.value c.mul-product.ensures.overflow c.if-overflow.false

pub returns-then-overflow-2 : goal.returns-then-overflow-2
returns-then-overflow-2 g c =
    λ i. c.overflowing_mul-product.ensures.overflow.0 c.if-overflow-2.true (InRange-wider g.T.Storage.SIGNED c.args.bits g.T.Storage.WIDTH _ c.requires.width c.requires.storage i)

pub returns-then-is_within : goal.returns-then-is_within
returns-then-is_within g c =
    (product-determines g.T.Storage.SIGNED c.args.bits g.T.Storage.WIDTH _ _ _ c.requires.width c.requires.storage c.overflowing_mul-product.ensures.value
    c.overflowing_mul-product.ensures.overflow c.if-overflow-2.false).0 (c.is_within.ensures.0 c.if-is_within.true)

pub returns-else-is_within : goal.returns-else-is_within
returns-else-is_within g c =
    none-out_of_range g.T.Storage.SIGNED c.args.bits _ _ _
    (product-determines g.T.Storage.SIGNED c.args.bits g.T.Storage.WIDTH _ _ _ c.requires.width c.requires.storage c.overflowing_mul-product.ensures.value
    c.overflowing_mul-product.ensures.overflow c.if-overflow-2.false) c.is_within.ensures c.if-is_within.false

pub returns-then-is_number_of : goal.returns-then-is_number_of
returns-then-is_number_of g c =
    let e = to_z-of_z {w = w64} {z = c.product-product.result} (record { sfits = c.product-product.type_inv }) ∙ c.product-product.ensures in
    let i = (equal-determines g.T.Storage.SIGNED c.args.bits _ _ e).0 (c.is_number_of.ensures.0 c.if-is_number_of.true) in
    (i.0, c.from_i64.ensures ∙ e)

pub returns-else-is_number_of : goal.returns-else-is_number_of
returns-else-is_number_of g c =
    let e = to_z-of_z {w = w64} {z = c.product-product.result} (record { sfits = c.product-product.type_inv }) ∙ c.product-product.ensures in
    none-out_of_range g.T.Storage.SIGNED c.args.bits _ _ _ (equal-determines _ _ _ _ e) c.is_number_of.ensures c.if-is_number_of.false

pub product-product-requires : goal.product-product-requires
product-product-requires g c = record { small = omega (arith, c.WIDTH.ensures, c.if-WIDTH-le16.true) }

pub is_number_of-requires : goal.is_number_of-requires
is_number_of-requires g c = record { small = omega (arith, c.WIDTH.ensures, c.if-WIDTH-le16.true); width = c.requires.width; storage = c.requires.storage }

pub is_in_range-requires : goal.is_in_range-requires
is_in_range-requires g c = c.requires

pub is_within-requires : goal.is_within-requires
is_within-requires g c = c.requires

pub mul-product-requires : goal.mul-product-requires
mul-product-requires g c =
    elim c.if-bits-WIDTH.branch [
      | then-bits-WIDTH w ↦ record {
        width = c.requires.width;
        storage = subst (λ (v : ℕ). c.args.bits < v) c.WIDTH-then-SIGNED.ensures w.if-bits-WIDTH.true;
        x_in_range = w.is_in_range.ensures.0 (sym w.value-is ∙ c.if-is_in_range.true);
      }
      | else-bits-WIDTH w ↦ absurd (not-le_of_lt (ltb-true _ _ (sym w.value-is ∙ c.if-is_in_range.true)) w.if-bits-WIDTH.false)
    ]
