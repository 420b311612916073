use Rattle.arbitrary_int.proofs.StepLemmas.{exact-checks, quotient-checks}
use Rattle.arbitrary_int.proofs.runs.two.Goals as goal

pub returns-in-CheckedAdd : goal.returns-in-CheckedAdd
returns-in-CheckedAdd g c =
    rw c.in-CheckedAdd.is (exact-checks g.R.Numbered.number g.R.Numbered.IS_SIGNED g.R.Numbered.BITS _ c.checked_add.result c.ok_or.result c.checked_add.ensures.exact c.ok_or.ensures.value)

pub returns-in-CheckedSub : goal.returns-in-CheckedSub
returns-in-CheckedSub g c =
    rw c.in-CheckedSub.is (exact-checks g.R.Numbered.number g.R.Numbered.IS_SIGNED g.R.Numbered.BITS _ c.checked_sub.result c.ok_or-in-CheckedSub.result c.checked_sub.ensures.exact c.ok_or-in-CheckedSub.ensures.value)

pub returns-in-CheckedMul : goal.returns-in-CheckedMul
returns-in-CheckedMul g c =
    rw c.in-CheckedMul.is (exact-checks g.R.Numbered.number g.R.Numbered.IS_SIGNED g.R.Numbered.BITS _ c.checked_mul.result c.ok_or-in-CheckedMul.result c.checked_mul.ensures.exact c.ok_or-in-CheckedMul.ensures.value)

pub returns-in-CheckedDiv : goal.returns-in-CheckedDiv
returns-in-CheckedDiv g c =
    rw c.in-CheckedDiv.is (quotient-checks g.R.Numbered.number g.R.Numbered.IS_SIGNED g.R.Numbered.BITS _ _ c.checked_div.result c.ok_or-in-CheckedDiv.result c.checked_div.ensures.exact c.ok_or-in-CheckedDiv.ensures.value)
