use Rattle.bites_spec.proofs.Laws as laws
use Rattle.bites_spec.proofs.bounds_are_reached.Goals as goal

pub returns : goal.returns
returns c = laws.bounds_are_reached
