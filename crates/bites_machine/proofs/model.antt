-- The machine on lists: what it finds, what it visits and how many steps it takes.
pub mod PathLemmas
pub mod MachineWaiting
pub mod MachineTrace
pub mod MachineSearch
pub mod MachineFirst
pub mod MachineCounts
pub mod MachineClosed
pub mod MachineOrder
pub mod MachineLongest
pub mod MachineWalks
pub mod MachineKnown
pub mod MachineAnswers
pub mod MachineOnce
pub mod MachineRuns
