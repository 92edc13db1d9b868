pub mod ErrorLemmas
pub mod NumberLemmas
pub mod PieceFacts
mod RowLemmas
mod FrontLemmas
