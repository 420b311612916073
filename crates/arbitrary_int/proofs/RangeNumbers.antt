-- The numbers of a range: the first, the others, the last, and their count.
use Rattle.std.specs.Prelude.{length, pos, ℤ, ◌+ℤ◌, ◌-ℤ◌, ◌≡◌, ◌≤ℤ◌}
use Rattle.std.proofs.Common.{ap, arith, ◌∙◌}
use Rattle.std.proofs.lemmas.Int.{ints}
use Rattle.arbitrary_int.proofs.SteppingLemmas.{gap-some, length-numbers}
use Rattle.arbitrary_int.specs.Ranges.{numbers}

pub numbers-count : (a b : ℤ) → a ≤ℤ b → pos (length (numbers a b)) ≡ b -ℤ a +ℤ pos 1
numbers-count a b h =
    let e = gap-some a (b +ℤ pos 1) (omega (arith, ints)) in
    ap pos (length-numbers a b) ∙ omega (arith, ints)
