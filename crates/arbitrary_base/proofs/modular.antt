-- Congruence modulo a power of two: residues, wrapping and truncation.
pub mod Congruence
pub mod Residue
pub mod Truncation
pub mod RoundTrip
pub mod LowBitOperation
pub mod ExactOrCongruent
pub mod Inverse
pub mod Representable
