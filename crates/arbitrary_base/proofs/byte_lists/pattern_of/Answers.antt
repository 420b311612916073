use Rattle.std.proofs.Common.{List, get_or, Fits, w8, ◌∙◌, ◌<◌, ℕ, length, arith, ap, sym, subst, ◌-◌, ◌*◌, ◌^◌}
use Rattle.std.specs.Prelude.{pos}
use Rattle.arbitrary_base.specs.ByteLists.{bytes}
use Rattle.arbitrary_base.proofs.bytes.NumberOfBytes.{room, whole, bytes-number, bytes_number-lt}
use Rattle.arbitrary_base.proofs.byte_lists.pattern_of.Goals as goal

byte : (l : List ℕ) → ((j : ℕ) → Fits w8 (get_or l j 0)) → (j : ℕ) → get_or l j 0 < 256
byte l h j = let f = h j in omega (arith, f)

pub overflow_mul-pattern : goal.overflow_mul-pattern
overflow_mul-pattern c =
    let e = room c.args.list.now c.loop-i.i c.loop-i.pattern 0 (byte _ c.type_inv.list) c.requires c.loop-i-test.true c.loop-i.invariant.1 c.loop-i.invariant.0 (omega arith) in
    omega (arith, e)

pub overflow_add-pattern : goal.overflow_add-pattern
overflow_add-pattern c =
    let e = room c.args.list.now c.loop-i.i c.loop-i.pattern _ (byte _ c.type_inv.list) c.requires c.loop-i-test.true c.loop-i.invariant.1 c.loop-i.invariant.0 (byte _ c.type_inv.list (c.loop-i.i - 1)) in
    omega (arith, e)

pub returns-clause-value : goal.returns-clause-value
returns-clause-value c = whole c.loop-i.i c.args.list.now _ (omega arith) c.loop-i.invariant.0

pub returns-clause-bytes : goal.returns-clause-bytes
returns-clause-bytes c = ap (λ (p : ℕ). bytes (length c.args.list.now) (pos p)) (returns-clause-value c) ∙ bytes-number c.args.list.now (byte _ c.type_inv.list)

pub returns-clause-fits : goal.returns-clause-fits
returns-clause-fits c = subst (λ (p : ℕ). p < 2 ^ (8 * length c.args.list.now)) (sym (returns-clause-value c)) (bytes_number-lt c.args.list.now (byte _ c.type_inv.list))
