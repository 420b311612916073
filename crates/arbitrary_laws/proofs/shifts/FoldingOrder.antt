-- Foldings by `x ^ (x >> k)` commute, so that a Gray code is decoded by foldings in the order of a program.
-- Callers name the set `folding_orders`.
use Rattle.std.specs.Prelude.{false, ℕ, ℤ, ◌≡◌, ◌≤◌}
use Rattle.std.proofs.Common.{ap, sym, ◌∙◌}
use Rattle.std.proofs.lemmas.Bool.Decides.{Decides-int_eq}
use Rattle.arbitrary_base.specs.Operation.{bitwise_xor, shifted_right}
use Rattle.arbitrary_base.specs.Range.{InRange}
use Rattle.arbitrary_base.proofs.operations.Shift.{shifted_right-xor}
use Rattle.arbitrary_laws.proofs.shifts.Folding.{bitwise_xor-exchanged, folded-away, folded-twice}
use Rattle.arbitrary_laws.proofs.shifts.MovedProducts.{shifted_right-exchanged}

pub folds-exchanged : (B : ℕ) (x : ℤ) (a b : ℕ) → 1 ≤ B → a ≤ B → b ≤ B → InRange false B x
    → bitwise_xor false B (bitwise_xor false B x (shifted_right false B x a)) (shifted_right false B (bitwise_xor false B x (shifted_right false B x a)) b)
    ≡ bitwise_xor false B (bitwise_xor false B x (shifted_right false B x b)) (shifted_right false B (bitwise_xor false B x (shifted_right false B x b)) a)
folds-exchanged B x a b h p q f =
    ap (bitwise_xor false B _) (shifted_right-xor false B x _ b q ∙ ap (bitwise_xor false B _) (shifted_right-exchanged false B x a b h p q f))
    ∙ bitwise_xor-exchanged false B x _ _ _ h
    ∙ ap (bitwise_xor false B _) (sym (shifted_right-xor false B x _ a p))

-- Apart from `folds`, which proves four foldings of twelve bits. With this law the search reaches its limit there.
pub ruleset folding_orders = (Decides-int_eq, folded-twice, folded-away, folds-exchanged)
