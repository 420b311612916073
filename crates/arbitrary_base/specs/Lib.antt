-- The definitions that contracts cite, in this crate and above.
pub mod Range
pub mod Residue
pub mod Field
pub mod Saturating
pub mod BitList
pub mod Operation
pub mod Power
pub mod Assigned
pub mod Watched
pub mod ByteLists
pub mod Streams
pub mod Laws
