-- The fields of a frame, joined in a word and extracted again.
use Rattle.std.specs.Prelude.{◌≡◌, ◌^◌, ℕ, ℤ, pos, ◌+ℤ◌, ◌*ℤ◌, true, false}
use Rattle.std.proofs.Common.{arith, ap, ◌∙◌, lit≤}
use Rattle.std.proofs.lemmas.Int.{ints}
use Rattle.arbitrary_int.specs.Range.{InRange}
use Rattle.arbitrary_int.specs.Residue.{wrap}
use Rattle.arbitrary_int.specs.Field.{field}
use Rattle.arbitrary_int.proofs.Residue.{wrap-in_range, wrap-congruent, wrap-same, wrap-of_in_range}

-- a sample goes through the number with the same bits
wrap-unsigned : (x : ℤ) → InRange true 12 x → wrap true 12 (wrap false 12 x) ≡ x
wrap-unsigned x f = wrap-same true 12 (wrap false 12 x) x (wrap-congruent false 12 x) ∙ wrap-of_in_range true 12 x (lit≤ tt) f

pub fields-of_sum : (n : ℕ) (identifier length first second : ℤ) → InRange false 11 identifier → InRange false 4 length → InRange true 12 first → InRange true 12 second
    → pos n ≡ pos (2 ^ 29) *ℤ identifier +ℤ pos (2 ^ 24) *ℤ length +ℤ pos (2 ^ 12) *ℤ wrap false 12 first +ℤ wrap false 12 second
    → (field n 29 11 ≡ identifier) × (field n 24 4 ≡ length) × (wrap true 12 (field n 12 12) ≡ first) × (wrap true 12 (field n 0 12) ≡ second)
fields-of_sum n identifier length first second f g p q e =
    let h = wrap-in_range false 12 first (lit≤ tt) in
    let k = wrap-in_range false 12 second (lit≤ tt) in (
      omega (arith, ints, f.low, f.high, g.low, g.high, h.low, h.high, k.low, k.high, e),
      omega (arith, ints, f.low, f.high, g.low, g.high, h.low, h.high, k.low, k.high, e),
      ap (wrap true 12) (omega (arith, ints, f.low, f.high, g.low, g.high, h.low, h.high, k.low, k.high, e)) ∙ wrap-unsigned first p,
      ap (wrap true 12) (omega (arith, ints, f.low, f.high, g.low, g.high, h.low, h.high, k.low, k.high, e)) ∙ wrap-unsigned second q,
    )
