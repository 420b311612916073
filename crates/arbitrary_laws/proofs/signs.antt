-- Laws of signs: as masks, in comparisons, and of overflow.
pub mod Extensions
pub mod OverflowBits
pub mod SignExtensions
pub mod SignMasks
pub mod SignTests
pub mod SignWord
pub mod TurnedSigns
pub mod ZigZag
