-- Laws of bytes, byte orders and streams.
pub mod SwappedBytes
pub mod StreamBytes
pub mod Rulesets
