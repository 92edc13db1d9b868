use Rattle.bites_spec.proofs.Laws as laws
use Rattle.bites_spec.proofs.slots_are_groups.Goals as goal

pub returns : goal.returns
returns c = laws.slots_are_groups
