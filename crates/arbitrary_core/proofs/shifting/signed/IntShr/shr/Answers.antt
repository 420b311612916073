-- For `>>` of `Int` in src/shifting/signed.rt: it first makes the number, because copies of the sign come in. Each
-- plain clause is then one lemma of ShiftAsProduct.antt in arbitrary_base. For `UInt`, under unsigned/, one
-- quotient replaces `low` and `high`.
use Rattle.std.specs.Prelude.{◌≡◌, ◌<◌, unsigned_abs}
use Rattle.std.proofs.Common.{arith, ap, sym, ◌∙◌}
use Rattle.std.proofs.lemmas.Int.{ints}
use Rattle.arbitrary_base.specs.BitList.{bits, val, fill, shr}
use Rattle.arbitrary_base.proofs.operations.ShiftAsProduct.{shr-low, shr-high, shr-range}
use Rattle.arbitrary_base.proofs.operations.Definition.{right-is}
use Rattle.arbitrary_core.proofs.Results.{of_numbers}
use Rattle.arbitrary_core.proofs.shifting.signed.IntShr.shr.Goals as goal

pub to_amount-requires-clause-high : goal.to_amount-requires-clause-high
to_amount-requires-clause-high g c =
    let high = c.requires.1 in
    let fits = c.value.ensures.width.1 in
    let width = g.met.T.Storage.width_law.1 in
    omega (arith, ints)

pub shr-requires-clause-within : goal.shr-requires-clause-within
shr-requires-clause-within g c = let high = c.requires.1 in let same = c.to_amount.ensures in omega (arith, ints)

pub returns : goal.returns
returns g c =
    let w = c.value.ensures.width.0 in
    let x = c.value.ensures.self_in_range in
    let k : c.to_amount.result ≡ unsigned_abs (g.S.ShiftAmount.amount c.args.amount) = ap unsigned_abs c.to_amount.ensures in
    let l : unsigned_abs (g.S.ShiftAmount.amount c.args.amount) < g.row.BITS =
    let low = c.requires.0 in let high = c.requires.1 in let a = c.to_amount.ensures in omega (arith, ints) in
    let e = of_numbers (λ x n. let list = bits g.row.BITS x in val g.T.Storage.SIGNED (shr list n (fill g.T.Storage.SIGNED list))) c.value.ensures.number k c.shr.ensures.value c.new.ensures in
    record {
      operation = e ∙ sym (right-is _ _ _ _);
      bits = e;
      low = shr-low _ _ _ _ _ w l x e;
      high = shr-high _ _ _ _ _ w l x e;
      result_in_range = shr-range _ _ _ _ _ w l x e;
      self_in_range = x;
    }
