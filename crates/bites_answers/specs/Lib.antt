pub mod Evaluated
pub mod Messages
pub mod Trees
pub mod Builds
pub mod Searches
pub mod Captures
pub mod Iterations
pub mod Replacements
