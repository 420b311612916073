-- Laws of words of fields under constant masks, as quotients and remainders.
pub mod LowestOne
pub mod LowestZeros
pub mod WrittenMasks
pub mod JoinedReads
pub mod ApartParts
pub mod Multiples
pub mod MergedParts
pub mod OverflowFlags
