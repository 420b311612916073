use Rattle.std.proofs.Common.{◌≡◌, ℤ, arith, subst, ◌∙◌, ◌<◌, to_z-of_z}
use Rattle.std.specs.Int.{w64}
use Rattle.std.specs.Prelude.{◌+ℤ◌, ◌-◌}
use Rattle.arbitrary_base.specs.Saturating.{clamp}
use Rattle.arbitrary_base.proofs.storages.Clamp.{clamp-InRange, clamp-in_range, add-saturates}
use Rattle.arbitrary_base.proofs.storages.RaisedNumber.{nearest-raised, raised-sum}
use Rattle.arbitrary_base.proofs.storages.SixteenBits.{small-sum}
use Rattle.arbitrary_base.proofs.storages.SpareBit.{sum-stays}
use Rattle.arbitrary_base.proofs.saturating.add.Goals as goal

pub returns-then-WIDTH-le32 : goal.returns-then-WIDTH-le32
returns-then-WIDTH-le32 g c =
    let room : c.args.bits < g.T.Storage.WIDTH = omega (arith, c.WIDTH-else-SIGNED.ensures, c.if-bits-WIDTH.true) in
    let exact = sum-stays g.T.Storage.SIGNED c.args.bits g.T.Storage.WIDTH _ _ _ c.requires.width room c.requires.x_in_range c.requires.y_in_range c.wrapping_add.ensures in
    record {
      value = subst (λ (v : ℤ). g.T.Storage.number c.clamped-then-WIDTH-le32.result ≡ clamp g.T.Storage.SIGNED c.args.bits v) exact c.clamped-then-WIDTH-le32.ensures;
      result_in_range = clamp-InRange g.T.Storage.SIGNED c.args.bits _ _ c.requires.width c.clamped-then-WIDTH-le32.ensures;
    }

pub returns-in-Some : goal.returns-in-Some
returns-in-Some g c =
    let e = clamp-in_range g.T.Storage.SIGNED c.args.bits _ _ c.in-Some.ensures.0 c.in-Some.ensures.1 in
    record { value = e; result_in_range = clamp-InRange _ _ _ _ c.requires.width e }

pub returns-in-None : goal.returns-in-None
returns-in-None g c =
    let e = add-saturates g.T.Storage.SIGNED c.args.bits _ _ _ _ c.requires.width c.requires.x_in_range c.requires.y_in_range c.in-None.ensures c.is_below_zero.ensures c.end.ensures in
    record { value = e; result_in_range = clamp-InRange _ _ _ _ c.requires.width e }

pub number-requires : goal.number-requires
number-requires g c = record { small = omega (arith, c.WIDTH.ensures, c.if-WIDTH-le16.true); width = c.requires.width; storage = c.requires.storage; x_in_range = c.requires.x_in_range }

pub number-requires-then-WIDTH-le16 : goal.number-requires-then-WIDTH-le16
number-requires-then-WIDTH-le16 g c = record { small = omega (arith, c.WIDTH.ensures, c.if-WIDTH-le16.true); width = c.requires.width; storage = c.requires.storage; x_in_range = c.requires.y_in_range }

pub overflow_add-number : goal.overflow_add-number
overflow_add-number g c =
    (small-sum g.T.Storage.SIGNED g.T.Storage.WIDTH _ _ _ _ (omega (arith, c.WIDTH.ensures, c.if-WIDTH-le16.true)) c.number.ensures.result_in_range c.number-then-WIDTH-le16.ensures.result_in_range
    (to_z-of_z {w = w64} {z = c.number.result} (record { sfits = c.number.type_inv }))
    (to_z-of_z {w = w64} {z = c.number-then-WIDTH-le16.result} (record { sfits = c.number-then-WIDTH-le16.type_inv }))).0

pub returns-then-WIDTH-le16 : goal.returns-then-WIDTH-le16
returns-then-WIDTH-le16 g c =
    let a = to_z-of_z {w = w64} {z = c.number.result} (record { sfits = c.number.type_inv }) in
    let b = to_z-of_z {w = w64} {z = c.number-then-WIDTH-le16.result} (record { sfits = c.number-then-WIDTH-le16.type_inv }) in
    let e = nearest-raised g.T.Storage.SIGNED c.args.bits g.T.Storage.WIDTH (g.T.Storage.number c.args.x +ℤ g.T.Storage.number c.args.y) _ _ c.requires.width c.requires.storage
    (raised-sum (g.T.Storage.WIDTH - c.args.bits) _ _ _ _ _ (a ∙ c.number.ensures.value) (b ∙ c.number-then-WIDTH-le16.ensures.value)
    (to_z-of_z {w = w64} (overflow_add-number g c.before))) c.clamped.ensures in
    record { value = e; result_in_range = clamp-InRange _ _ _ _ c.requires.width e }

pub clamped-requires : goal.clamped-requires
clamped-requires g c = record { small = omega (arith, c.WIDTH.ensures, c.if-WIDTH-le16.true); width = c.requires.width; storage = c.requires.storage }

pub clamped-requires-then-WIDTH-le32 : goal.clamped-requires-then-WIDTH-le32
clamped-requires-then-WIDTH-le32 g c = record { width = c.requires.width; storage = c.requires.storage }

pub add-requires : goal.add-requires
add-requires g c = c.requires

pub end-requires : goal.end-requires
end-requires g c = record { width = c.requires.width; storage = c.requires.storage }
