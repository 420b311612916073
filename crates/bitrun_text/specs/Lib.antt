-- The meaning of a text for `bitrun`, with one file for each part of the text.
pub mod Fault
pub mod Text
pub mod Numeral
pub mod Kind
pub mod Operation
pub mod Form
pub mod Fast
