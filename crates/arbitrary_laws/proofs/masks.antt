-- Laws of numbers under constant and variable masks.
pub mod FlagTests
pub mod LowMask
pub mod MaskTests
pub mod MaskedResults
pub mod VariableMasks
pub mod WrittenMask
pub mod NumberUnderMask
pub mod Rulesets
