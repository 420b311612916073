-- Laws of conversions, quotients, remainders and text.
pub mod Conversions
pub mod QuotientAndCube
pub mod QuotientOrder
pub mod QuotientParts
pub mod Remainders
pub mod TextLength
pub mod WiderRanges
pub mod Rulesets
