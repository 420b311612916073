-- The definitions that the contracts of this crate cite.
pub mod Steps
pub mod Runs
pub mod Widths
pub mod Borsh
pub mod Ranges
pub mod Totals
pub mod GenericLaws
-- The words that the contracts of this crate, and of those that it passes on, cite.
pub use Rattle.arbitrary_base.specs.Range
pub use Rattle.arbitrary_base.specs.Residue
pub use Rattle.arbitrary_base.specs.Field
pub use Rattle.arbitrary_base.specs.Saturating
pub use Rattle.arbitrary_base.specs.Power
pub use Rattle.arbitrary_base.specs.BitList
pub use Rattle.arbitrary_base.specs.Operation
pub use Rattle.arbitrary_base.specs.Watched
pub use Rattle.arbitrary_base.specs.Laws
pub use Rattle.arbitrary_base.specs.ByteLists
pub use Rattle.arbitrary_base.specs.Streams
