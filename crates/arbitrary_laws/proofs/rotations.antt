-- Laws of rotations and reversals.
pub mod BackRotations
pub mod RightRotations
pub mod RotatedLists
pub mod RotatedNumber
pub mod RotationsAndReversals
pub mod Rulesets
