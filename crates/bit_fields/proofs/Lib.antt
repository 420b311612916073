-- The lemmas of this crate, one file for each subject. A folder with the name of a module has the proofs of its functions.
pub mod Placing
pub mod Replacing
pub mod Putting
pub mod Getting
