-- An assigning form with the contract of its operator.
use Rattle.arbitrary_base.specs.Assigned.{IsAssigned}

-- of seven operators as of one
pub all_assigned : {S : Type 0} {c1 c2 c3 c4 c5 c6 c7 : S → S → Type 0} {g1 g2 g3 g4 g5 g6 g7 : S → S → S → Type 0}
    → IsAssigned c1 c1 g1 g1 × IsAssigned c2 c2 g2 g2 × IsAssigned c3 c3 g3 g3 × IsAssigned c4 c4 g4 g4
    × IsAssigned c5 c5 g5 g5 × IsAssigned c6 c6 g6 g6 × IsAssigned c7 c7 g7 g7
all_assigned {S} = (same, same, same, same, same, same, same)
  where
    same : {can : S → S → Type 0} {gives : S → S → S → Type 0} → IsAssigned can can gives gives
    same = record { may = λ a b h. h; same = λ a b r h. h }
