pub mod BorderLemmas
pub mod ReplacingLemmas
pub mod CountLemmas
