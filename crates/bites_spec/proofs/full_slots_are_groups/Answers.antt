use Rattle.bites_spec.proofs.Laws as laws
use Rattle.bites_spec.proofs.full_slots_are_groups.Goals as goal

pub returns : goal.returns
returns c = laws.full_slots_are_groups
