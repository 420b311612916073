-- The words that the contracts of this crate cite.
pub use Rattle.arbitrary_base.specs.Range
pub use Rattle.arbitrary_base.specs.Residue
pub use Rattle.arbitrary_base.specs.Saturating
pub use Rattle.arbitrary_base.specs.BitList
