-- The counts of ones and of the runs at the ends of a number, for the calls of src/calls/counts.rt.
pub mod OneRunBounds
pub mod RunBesideCount
pub mod RunsByDigits
pub mod ZeroRunBounds
pub mod EndCounts
