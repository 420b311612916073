-- Laws of `<`, `<=` and `==` of results.
pub mod EqualResults
pub mod Order
pub mod SignedOrder
pub mod Rulesets
