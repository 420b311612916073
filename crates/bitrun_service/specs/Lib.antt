-- The definitions that the contracts of this crate cite.
pub mod Stream
pub mod Output
pub mod Serving
