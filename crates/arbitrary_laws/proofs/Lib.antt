-- The laws for callers, one folder for each topic. Sets.antt has the public sets.
pub mod Everyday
pub mod Sets
pub mod bits
pub mod places
pub mod masks
pub mod fields
pub mod words
pub mod written
pub mod signs
pub mod counts
pub mod shifts
pub mod rotations
pub mod sums
pub mod orders
pub mod numbers
pub mod bytes
pub mod steps
