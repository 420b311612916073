-- How the assigning form of an operator relates to the operator.

-- it has the condition and the result of the operator
pub record IsAssigned {S : Type 0} (can can_assign : S → S → Type 0) (gives assign_gives : S → S → S → Type 0) : Type 0 where
  pub may : (a b : S) → can a b → can_assign a b
  pub same : (a b r : S) → assign_gives a b r → gives a b r
