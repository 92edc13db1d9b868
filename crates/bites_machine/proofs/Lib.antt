pub mod Library
pub mod compile
pub mod templates
pub mod tables
pub mod model
pub mod steps
pub mod refine
