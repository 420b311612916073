pub mod counts
