-- For `<<` of `Int` in src/shifting/signed.rt: it shifts the stored bits, so StoredBits.antt leads from the list
-- of bits to the number. For `UInt`, under unsigned/, the number itself is shifted.
use Rattle.std.specs.Prelude.{◌≡◌, ◌≤◌, ◌<◌, length, unsigned_abs}
use Rattle.std.proofs.Common.{arith, ap, ◌∙◌, sym}
use Rattle.std.proofs.lemmas.Int.{ints}
use Rattle.arbitrary_base.specs.Operation.{shifted_left}
use Rattle.arbitrary_base.specs.BitList.{bits, shl}
use Rattle.arbitrary_base.proofs.bit_lists.UnsignedNumber.{length-bits}
use Rattle.arbitrary_base.proofs.bit_lists.Movement.{length-shl}
use Rattle.arbitrary_base.proofs.operations.ShiftAsProduct.{shl-congruent}
use Rattle.arbitrary_core.proofs.StoredBits.{bits-stays, number-of_list}
use Rattle.arbitrary_base.proofs.operations.Definition.{left-is}
use Rattle.arbitrary_base.proofs.operations.Shift.{shifted_left-none}
use Rattle.arbitrary_core.proofs.shifting.signed.IntShl.shl.Goals as goal

pub to_amount-requires-clause-high : goal.to_amount-requires-clause-high
to_amount-requires-clause-high g c =
    let high = c.requires.1 in
    let fits = c.to_bits.ensures.width.1 in
    let width = g.met.T.Storage.width_law.1 in
    omega (arith, ints)

pub shl-requires-clause-within : goal.shl-requires-clause-within
shl-requires-clause-within g c = let high = c.requires.1 in let same = c.to_amount.ensures in omega (arith, ints)

pub returns : goal.returns
returns g c =
    let w = c.to_bits.ensures.width.0 in
    let a = unsigned_abs (g.S.ShiftAmount.amount c.args.amount) in
    let k : c.to_amount.result ≡ a = ap unsigned_abs c.to_amount.ensures in
    let l : a < g.row.BITS = let low = c.requires.0 in let high = c.requires.1 in let m = c.to_amount.ensures in omega (arith, ints) in
    let t : a ≤ length (bits g.row.BITS c.args.self) = omega (arith, length-bits g.row.BITS c.args.self) in
    let n = length-shl (bits g.row.BITS c.args.self) a t ∙ length-bits g.row.BITS c.args.self in
    let p = bits-stays g.row.BITS c.args.self _ c.to_bits.ensures.value in
    let e = number-of_list g.T.Storage.SIGNED g.U.Storage.SIGNED g.row.BITS _ _ _ _ w n (λ i. shl (p i) (k i)) c.shl.ensures.value c.from_bits.ensures.number in
    record {
      operation = e ∙ sym (left-is _ _ _ _);
      bits = e;
      congruent = shl-congruent _ _ _ _ _ w l e;
      none = λ z. e ∙ sym (left-is _ _ _ _) ∙ ap (shifted_left g.T.Storage.SIGNED g.row.BITS _) z ∙ shifted_left-none _ _ _ w c.to_bits.ensures.self_in_range;
      self_in_range = c.to_bits.ensures.self_in_range;
    }
