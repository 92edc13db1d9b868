-- Programs of trees: their runs are the parses, in order, and their slots are the groups.
pub mod PartLemmas
pub mod EnterLemmas
pub mod SlotLemmas
pub mod BuiltLemmas
pub mod OrderLemmas
pub mod TracedParses
pub mod ListedLemmas
pub mod FormOrderLemmas
pub mod PlainLemmas
pub mod OneLemmas
pub mod LongestLemmas
pub mod ApartLemmas
pub mod FoundLemmas
pub mod ListedRunLemmas
