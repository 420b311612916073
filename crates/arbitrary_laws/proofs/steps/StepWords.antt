-- The sums, differences and products of steps, in the words of the calls and of the sets of laws. So another set
-- that is named with `steps` also proves facts about steps.
use Rattle.std.specs.Prelude.{◌≡◌, ℕ, ℤ, Bool, ◌+ℤ◌, ◌-ℤ◌, ◌*ℤ◌}
use Rattle.std.proofs.Common.{sym}
use Rattle.arbitrary_base.specs.Residue.{wrap}
use Rattle.arbitrary_base.specs.Operation.{wrapped_difference, wrapped_product, wrapped_sum}
use Rattle.arbitrary_base.proofs.operations.Definition.{difference-is, product-is, sum-is}

pub sum-step : (s : Bool) (B : ℕ) (x y : ℤ) → wrap s B (x +ℤ y) ≡ wrapped_sum s B x y
sum-step s B x y = sym (sum-is s B x y)

pub difference-step : (s : Bool) (B : ℕ) (x y : ℤ) → wrap s B (x -ℤ y) ≡ wrapped_difference s B x y
difference-step s B x y = sym (difference-is s B x y)

pub product-step : (s : Bool) (B : ℕ) (x y : ℤ) → wrap s B (x *ℤ y) ≡ wrapped_product s B x y
product-step s B x y = sym (product-is s B x y)
