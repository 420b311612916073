-- Lemmas over unbounded integers that std lacks, for any crate, with a file for each subject. A lemma with a
-- modulus or the range of a type belongs to `modular`, and one with a storage to `storages`.
pub mod Ring
pub mod Quotient
pub mod Powers
pub mod Squaring
pub mod SignAndMagnitude
pub mod ExactProduct
