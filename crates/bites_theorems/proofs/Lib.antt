pub mod FullLemmas
pub mod EscapedLemmas
pub mod HeadlineLemmas
pub mod AnswerLemmas
pub mod SuccessiveLemmas
pub mod PieceLemmas
mod RefutationLemmas
