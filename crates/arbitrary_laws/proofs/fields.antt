-- Laws of fields in a word: joined, written and read back.
pub mod EmptyWord
pub mod FieldReads
pub mod JoinedFields
pub mod JoinedWords
pub mod LowestField
pub mod MovedIn
pub mod PlacedField
pub mod PrimitiveFlags
pub mod ReplacedField
pub mod SideBySide
pub mod SignedField
pub mod Rulesets
