-- Laws of lists of steps and of ranges.
pub mod StepWords
pub mod RangeNumbers
pub mod Rulesets
