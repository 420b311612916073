-- The laws of the operations on the numbers of a type.
pub mod ShiftAsProduct
pub mod Definition
pub mod Expression
pub mod Bitwise
pub mod WrappedRing
pub mod Shift
pub mod RotateAndReverse
pub mod BitsAndSums
pub mod Complement
pub mod PowerAndQuotient
pub mod KnownMask
pub mod Amount
pub mod BitByBit
pub mod OperatorOrder
pub mod PopulationAndRuns
pub mod Assigned
