-- Laws of `&`, `|`, `^` and `!`.
pub mod AtMostOneBit
pub mod BitByBit
pub mod BitSums
pub mod ComplementParts
pub mod LongerSide
pub mod NegatedParts
pub mod OwnBits
pub mod Identities
pub mod Parts
pub mod Rulesets
