-- Classes: sets of characters as canonical lists of ranges.
pub mod RangeLemmas
pub mod ClassLemmas
