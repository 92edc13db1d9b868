-- Examples: what the definitions give on small values, and wrong values that they refuse.
mod Rows
pub mod Evaluations
pub mod LookLemmas
pub mod Refuted
