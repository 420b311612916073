-- Equal numbers for the law that equality, order and hash agree.
use Rattle.std.specs.Prelude.{◌≡◌, ℤ, IsTrue}
use Rattle.std.specs.Ordering.{int_eq}
use Rattle.std.proofs.lemmas.Bool.Decides.{Decides-int_eq}
use Rattle.std.proofs.Common.{ap}

-- equal numbers feed the same
pub feed-same : {A : Type 0} (feed : ℤ → A) (x y : ℤ) → IsTrue (int_eq x y) → feed x ≡ feed y
feed-same feed x y h = ap feed ((Decides-int_eq x y).0 h)

-- the number of a storage's value feeds what that value does
pub feed-number : {S A : Type 0} (number : S → ℤ) (of_number : ℤ → S) (feed : S → A) (law : (x : S) → of_number (number x) ≡ x) (x : S) → feed (of_number (number x)) ≡ feed x
feed-number number of_number feed law x = ap feed (law x)

pub ruleset agreements = (Decides-int_eq, feed-same, feed-number)
