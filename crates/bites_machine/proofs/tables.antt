-- The tables of a search: rows of slots, visited states and frames.
pub mod RowLemmas
pub mod FreeLemmas
pub mod StateSetLemmas
pub mod UsedLemmas
pub mod TraceLemmas
