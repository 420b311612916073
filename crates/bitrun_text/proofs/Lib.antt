-- The lemmas of this crate, one file for each subject. A folder with the name of a module has the proofs of its functions.
pub mod Lines
pub mod Digits
pub mod Values
pub mod StepLines
pub mod Forms
pub mod StepWords
pub mod Numbers
pub mod FastLines
