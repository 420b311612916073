-- How the primitives and their arithmetic determine the exact result.
pub mod Primitive
pub mod CheckedSum
pub mod Clamp
pub mod SpareBit
pub mod SignTest
pub mod SixteenBits
pub mod RaisedNumber
pub mod PrimitiveOperators
pub mod PrimitiveBits
pub mod RangeEnds
