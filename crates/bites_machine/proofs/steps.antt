-- A step of a closure is a step of the machine on lists.
pub mod VisitLemmas
pub mod CaptureLemmas
pub mod ExploreSteps
