-- The groups of laws that a file of generic code may open, under their public path:
-- `#![tactic(auto, unfolding(arbitrary_int::specs::GenericLaws::SumLaws))]`.
pub use Rattle.arbitrary_core.proofs.GenericLaws.{BitSumLaws, ComplementLaws, CountLaws, MovedBitLaws, OrderLaws, ProductLaws, SumLaws}
