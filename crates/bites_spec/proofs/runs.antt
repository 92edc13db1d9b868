-- Runs: paths through the edges of a program; the first run, the longest run, the least end.
pub mod WalkLemmas
pub mod FirstLemmas
pub mod RunLemmas
pub mod PlaceLemmas
pub mod RunBoundLemmas
pub mod ValueLemmas
pub mod FaultLemmas
