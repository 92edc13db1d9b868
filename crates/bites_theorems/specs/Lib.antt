pub mod Headline
pub mod Promises
pub mod OnTree
pub mod Refutations
