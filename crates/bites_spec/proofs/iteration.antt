-- Iterators: successive matches, the pieces between them, and replacement.
pub mod SpanLemmas
pub mod SuccessiveLemmas
pub mod PieceTextLemmas
pub mod ReplaceLemmas
pub mod RefusedLemmas
