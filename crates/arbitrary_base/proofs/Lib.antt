-- The lemmas of this crate and of crates above, one file for each subject. A folder with the name of a module has the proofs of its functions.
pub mod integers
pub mod modular
pub mod storages
pub mod bit_lists
pub mod operations
pub mod bytes
pub mod LawProof
