pub mod Samples
pub mod Means
pub mod Records
pub mod Frames
