-- Parses: what a tree matches, its marks and its groups.
pub mod EventLemmas
pub mod MarkPlaces
pub mod BoundLemmas
pub mod StaticLemmas
pub mod TextPlaces
pub mod TextMatches
