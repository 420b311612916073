-- Laws of shifts.
pub mod FoldingOrder
pub mod MovedProducts
pub mod ShiftPairs
pub mod Truncations
pub mod VariableAmounts
pub mod Folding
pub mod ShiftAndBack
pub mod Rulesets
