-- Laws of sums, differences and products that wrap.
pub mod Averages
pub mod CongruentChains
pub mod Distances
pub mod ExactSums
pub mod LowSums
pub mod Saturations
pub mod SerialNumbers
pub mod WrappedWords
pub mod BitsBesideSums
pub mod Carry
pub mod Complements
pub mod HighestBit
pub mod Multiple
pub mod Offset
pub mod Ring
pub mod Rulesets
