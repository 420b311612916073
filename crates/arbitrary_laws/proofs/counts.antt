-- Laws of counts of ones and zeros.
pub mod ConvertedCounts
pub mod CountBounds
pub mod LeadingZeros
pub mod LowestBitCounts
pub mod NormalShifts
pub mod Population
pub mod RunsOfTwo
pub mod TrailingZeros
pub mod Rulesets
