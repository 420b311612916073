-- The lemmas that several proofs of this crate use.
pub mod Conversion
