-- The complement reverses the order, as `FixedWidth` states it for generic code.
use Rattle.std.specs.Prelude.{◌≡◌, ◌≤◌, ◌<ℤ◌, ◌+ℤ◌, ℕ, ℤ, Bool, true}
use Rattle.std.specs.Ordering.{MatchOrdering, int_cmp}
use Rattle.std.specs.Cmp.{int_cmp_is, int_ranks}
use Rattle.std.proofs.Common.{Ordering, Less, Equal, Greater, arith, ◌∙◌}
use Rattle.std.proofs.lemmas.Int.{ints}
use Rattle.arbitrary_base.specs.Operation.{bitwise_not}
use Rattle.arbitrary_base.proofs.operations.BitByBit.{is_own_bits, own}
use Rattle.arbitrary_base.proofs.operations.Definition.{not-is}
use Rattle.arbitrary_base.proofs.operations.OperatorOrder.{not-mirrors}

mirrored-order : (x y z w k : ℤ) → x +ℤ z ≡ k → y +ℤ w ≡ k → int_cmp z w ≡ int_cmp y x
mirrored-order x y z w k e f = int_cmp_is y x (int_cmp z w) (ranked (int_cmp z w) (int_ranks z w))
  where
    ranked : (t : Ordering) → MatchOrdering t (z <ℤ w) (z ≡ w) (w <ℤ z) → MatchOrdering t (y <ℤ x) (y ≡ x) (x <ℤ y)
    ranked Less l = omega (arith, ints)
    ranked Equal l = omega (arith, ints)
    ranked Greater l = omega (arith, ints)

pub complements-turned : (s : Bool) (B : ℕ) (x y z w : ℤ) → 1 ≤ B → is_own_bits s B x ≡ true → is_own_bits s B y ≡ true
    → z ≡ bitwise_not s B x → w ≡ bitwise_not s B y → int_cmp z w ≡ int_cmp y x
complements-turned s B x y z w h g f e d =
    mirrored-order x y z w _
    (not-mirrors s B x z h (e ∙ not-is s B x) (own s B x g))
    (not-mirrors s B y w h (d ∙ not-is s B y) (own s B y f))
