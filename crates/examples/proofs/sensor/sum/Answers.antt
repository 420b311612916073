use Rattle.std.specs.Prelude.{◌≡◌, ℤ, pos, ◌+ℤ◌, List, MatchOption, true}
use Rattle.std.specs.List.{fold}
use Rattle.std.proofs.Common.{subst}
use Rattle.std.proofs.lemmas.List.{map-id}
use Rattle.std.proofs.lemmas.Iterator.{YieldsList-from_slice}
use Rattle.std.proofs.lemmas.Iterator.Consumers.{YieldsList-from_copied}
use Rattle.arbitrary_int.specs.Totals.{PartialsFit}
use Rattle.arbitrary_int.proofs.TotalSteps.{total-of_list}
use Rattle.examples.proofs.sensor.sum.Goals as goal

pub returns : goal.returns
returns c =
    subst (λ (l : List ℤ). MatchOption c.try_sum.result (¬ (PartialsFit true 12 (λ a b. a +ℤ b) (pos 0) l)) (λ x. PartialsFit true 12 (λ a b. a +ℤ b) (pos 0) l × (x ≡ fold (λ a b. a +ℤ b) (pos 0) l)))
    (map-id c.args.samples.now)
    (total-of_list (λ (x : ℤ). x) true 12 (λ a b. a +ℤ b) (pos 0) c.try_sum.result c.try_sum.ensures (YieldsList-from_copied (YieldsList-from_slice c.args.samples.now cc)))
