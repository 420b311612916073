-- A field that is written into an empty word.
use Rattle.std.specs.Prelude.{◌≡◌, ℕ, ℤ, false, pos, ◌++◌, length, take, drop, unsigned_abs, ◌+◌, ◌*◌, ◌≤◌, ◌^◌}
use Rattle.std.proofs.Common.{ap, ◌∙◌, arith, length-take}
use Rattle.arbitrary_base.specs.Range.{InRange}
use Rattle.arbitrary_base.specs.BitList.{bits, num}
use Rattle.bit_fields.specs.BitField.{with_field}
use Rattle.arbitrary_base.proofs.bit_lists.UnsignedNumber.{length-bits, num-append, num-take, num-drop, num-zeros}
use Rattle.arbitrary_base.proofs.bit_lists.StdBitwise.{num-plain}
use Rattle.arbitrary_base.proofs.operations.Definition.{bits-zero}

empty : num (bits 128 (pos 0)) ≡ 0
empty = ap num (bits-zero 128) ∙ num-zeros 128

pub with_field-of_nothing : (start B : ℕ) (x : ℤ) → start + B ≤ 128 → InRange false B x → with_field 0 start (bits B x) ≡ unsigned_abs x * 2 ^ start
unfolding with_field
with_field-of_nothing start B x h f =
    let w = bits 128 (pos 0) in
    let l = bits B x in
    let a = num-append (take start w ++ l) (drop (start + length l) w) in
    let b = num-append (take start w) l in
    let z : num (take start w) ≡ 0 = num-take start w ∙ rw empty (omega arith) in
    let y : num (drop (start + length l) w) ≡ 0 = num-drop (start + length l) w ∙ rw empty (omega arith) in
    let n = num-plain false B x f f.low in
    let t : length (take start w) ≡ start = simp length-take (omega (arith, length-bits 128 (pos 0))) in
    a ∙ rw (y, b, z, n, t) (omega arith)
