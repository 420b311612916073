-- For `mul` in src/saturating.rt: a storage of at most 16 bits clamps the exact product, and a wider one returns
-- the exact product or an end of the range. The lemmas are in storages/Clamp.antt.
use Rattle.std.proofs.Common.{ℤ, ap, arith, ◌∙◌, sym, subst, to_z-of_z}
use Rattle.std.specs.Int.{w64}
use Rattle.arbitrary_base.specs.Range.{InRange}
use Rattle.arbitrary_base.specs.Saturating.{clamp}
use Rattle.arbitrary_base.proofs.modular.Truncation.{InRange-wider}
use Rattle.arbitrary_base.proofs.storages.Clamp.{clamp-InRange, clamp-in_range, mul-saturates}
use Rattle.arbitrary_base.proofs.saturating.mul.Goals as goal

pub from_i64-requires : goal.from_i64-requires
from_i64-requires g c = record {
  x_in_range = subst (λ (v : ℤ). InRange g.T.Storage.SIGNED g.T.Storage.WIDTH v) (sym (to_z-of_z {w = w64} {z = c.clamped.result} (record { sfits = c.clamped.type_inv })))
      (InRange-wider g.T.Storage.SIGNED c.args.bits g.T.Storage.WIDTH c.clamped.result c.requires.width c.requires.storage (clamp-InRange g.T.Storage.SIGNED c.args.bits _ _ c.requires.width c.clamped.ensures));
}

pub returns-then-WIDTH-le16 : goal.returns-then-WIDTH-le16
returns-then-WIDTH-le16 g c =
    let a = to_z-of_z {w = w64} {z = c.product.result} (record { sfits = c.product.type_inv }) in
    let b = to_z-of_z {w = w64} {z = c.clamped.result} (record { sfits = c.clamped.type_inv }) in
    let e = c.from_i64.ensures ∙ b ∙ c.clamped.ensures ∙ ap (clamp g.T.Storage.SIGNED c.args.bits) (a ∙ c.product.ensures) in
    record { value = e; result_in_range = clamp-InRange _ _ _ _ c.requires.width e }

pub returns-in-Some : goal.returns-in-Some
returns-in-Some g c =
    let e = clamp-in_range g.T.Storage.SIGNED c.args.bits _ _ c.in-Some.ensures.0 c.in-Some.ensures.1 in
    record { value = e; result_in_range = clamp-InRange _ _ _ _ c.requires.width e }

pub returns-in-None : goal.returns-in-None
returns-in-None g c =
    let e = mul-saturates g.T.Storage.SIGNED c.args.bits (g.T.Storage.number c.args.x) (g.T.Storage.number c.args.y) _ _ _ c.requires.width c.in-None.ensures c.is_below_zero.ensures c.is_below_zero-in-None.ensures c.end.ensures in
    record { value = e; result_in_range = clamp-InRange _ _ _ _ c.requires.width e }

pub product-requires : goal.product-requires
product-requires g c = record { small = omega (arith, c.WIDTH.ensures, c.if-WIDTH-le16.true) }

pub clamped-requires : goal.clamped-requires
clamped-requires g c = record { small = omega (arith, c.WIDTH.ensures, c.if-WIDTH-le16.true); width = c.requires.width; storage = c.requires.storage }

pub mul-requires : goal.mul-requires
mul-requires g c = c.requires

pub end-requires : goal.end-requires
end-requires g c = c.requires
