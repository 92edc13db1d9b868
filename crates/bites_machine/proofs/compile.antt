-- From a tree to a program: states, their edges, sizes, groups and faults.
pub mod BitLemmas
pub mod EmitLemmas
pub mod CompiledLemmas
pub mod FaultLemmas
pub mod SizeLemmas
pub mod EmittedLemmas
pub mod GroupLemmas
pub mod BadLemmas
pub mod SumLemmas
