-- The code takes the steps of the machine on lists.
pub mod SearchResultLemmas
pub mod ClosureSteps
pub mod PlaceLemmas
pub mod BetweenStepsLemmas
pub mod PlaceSearches
pub mod TracedSteps
pub mod ResumeLemmas
