pub mod Network
pub mod Journal
