-- The lemmas of this crate, one file for each subject. A folder with the name of a module has the proofs of its functions.
pub mod Streams
pub mod WholeOutputs
pub mod Joined
pub mod Decimals
pub mod Unique
