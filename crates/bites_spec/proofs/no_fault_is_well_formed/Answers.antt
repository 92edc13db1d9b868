use Rattle.bites_spec.proofs.Laws as laws
use Rattle.bites_spec.proofs.no_fault_is_well_formed.Goals as goal

pub returns : goal.returns
returns c = laws.no_fault_is_well_formed
