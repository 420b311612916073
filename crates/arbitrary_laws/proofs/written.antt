-- Laws of literals.
pub mod AnyWidth
pub mod KnownBytes
pub mod KnownCalls
pub mod KnownCount
pub mod KnownEnds
pub mod KnownNumbers
pub mod PositiveParts
pub mod PositiveResults
pub mod WrittenParts
pub mod Rulesets
