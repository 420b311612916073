-- Laws of single bits, at constant and variable places.
pub mod BitPlaces
pub mod BitTests
pub mod LowestBit
pub mod LowestMasks
pub mod LowestPlace
pub mod MovedBits
pub mod OneBits
pub mod OtherBits
pub mod PrimitiveBit
pub mod SingleBit
pub mod VariablePlaces
pub mod Rulesets
