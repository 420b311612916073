use Rattle.std.specs.Int.{w64}
use Rattle.std.proofs.Common.{ap, ℕ, ◌<◌, arith, not-le_of_lt, subst, sym, ◌∙◌, to_z-of_z}
use borrow.Author.Tests.{ltb-true}
use Rattle.arbitrary_base.specs.Residue.{wrap}
use Rattle.arbitrary_base.proofs.storages.SpareBit.{out-unless, wrap-stays, product-overflow}
use Rattle.arbitrary_base.proofs.overflowing.mul.Goals as goal
use Rattle.arbitrary_base.proofs.overflowing.mul.Goals.{then-bits-WIDTH, else-bits-WIDTH}

pub returns-else-SIGNED-clause-value : goal.returns-else-SIGNED-clause-value
returns-else-SIGNED-clause-value g c =
    wrap-stays g.T.Storage.SIGNED c.args.bits g.T.Storage.WIDTH _ _ _ c.requires.width c.requires.storage c.truncated.ensures.value c.overflowing_mul-product.ensures.value

pub returns-else-SIGNED-clause-overflow : goal.returns-else-SIGNED-clause-overflow
returns-else-SIGNED-clause-overflow g c =
    product-overflow g.T.Storage.SIGNED c.args.bits g.T.Storage.WIDTH _ _ _ _ c.requires.width c.requires.storage c.overflowing_mul-product.ensures.value
    c.overflowing_mul-product.ensures.overflow c.is_in_range-else-SIGNED.ensures

pub returns-then-WIDTH-le16 : goal.returns-then-WIDTH-le16
returns-then-WIDTH-le16 g c =
    let e = to_z-of_z {w = w64} {z = c.product-product.result} (record { sfits = c.product-product.type_inv }) ∙ c.product-product.ensures in
    record {
      value = c.cast.ensures.value ∙ ap (wrap g.T.Storage.SIGNED c.args.bits) e;
      result_in_range = c.cast.ensures.result_in_range;
      overflow = out-unless g.T.Storage.SIGNED c.args.bits _ _ _ e c.is_number_of.ensures;
    }

pub returns-then-is_in_range : goal.returns-then-is_in_range
returns-then-is_in_range g c = c.mul.ensures

pub product-product-requires : goal.product-product-requires
product-product-requires g c = record { small = omega (arith, c.WIDTH.ensures, c.if-WIDTH-le16.true) }

pub is_number_of-requires : goal.is_number_of-requires
is_number_of-requires g c = record { small = omega (arith, c.WIDTH.ensures, c.if-WIDTH-le16.true); width = c.requires.width; storage = c.requires.storage }

pub cast-requires : goal.cast-requires
cast-requires g c = c.requires

pub truncated-requires : goal.truncated-requires
truncated-requires g c = c.requires

pub is_in_range-requires : goal.is_in_range-requires
is_in_range-requires g c = c.requires

pub is_in_range-requires-else-SIGNED : goal.is_in_range-requires-else-SIGNED
is_in_range-requires-else-SIGNED g c = c.requires

pub mul-requires : goal.mul-requires
mul-requires g c =
    elim c.if-bits-WIDTH.branch [
      | then-bits-WIDTH w ↦ record {
        width = c.requires.width;
        storage = subst (λ (v : ℕ). c.args.bits < v) c.WIDTH-then-SIGNED.ensures w.if-bits-WIDTH.true;
        x_in_range = w.is_in_range.ensures.0 (sym w.value-is ∙ c.if-is_in_range.true);
      }
      | else-bits-WIDTH w ↦ absurd (not-le_of_lt (ltb-true _ _ (sym w.value-is ∙ c.if-is_in_range.true)) w.if-bits-WIDTH.false)
    ]
