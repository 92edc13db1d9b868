use Rattle.bites_spec.proofs.Laws as laws
use Rattle.bites_spec.proofs.groups_are_successive.Goals as goal

pub returns : goal.returns
returns c = laws.groups_are_successive
