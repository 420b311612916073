-- A number shifted left and back is its low bits, with the sign extended, and so is its conversion to a narrower
-- type and back. Callers name the set `sign_extensions`.
use Rattle.std.proofs.lemmas.Bool.Decides.{Decides-int_eq}
use Rattle.arbitrary_base.proofs.modular.Residue.{wrap-congruent}
use Rattle.arbitrary_laws.proofs.shifts.ShiftPairs.{left_right-wraps}

pub ruleset sign_extensions = (Decides-int_eq, left_right-wraps, wrap-congruent)
