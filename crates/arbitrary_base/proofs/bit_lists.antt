-- Lists of bits, and the code that works on them.
pub mod UnsignedNumber
pub mod Movement
pub mod Count
pub mod TwosComplement
pub mod CodeOnPatterns
pub mod SignBit
pub mod ResultOfPattern
pub mod StdBitwise
pub mod ExtractedField
pub mod Pointwise
pub mod Rotation
