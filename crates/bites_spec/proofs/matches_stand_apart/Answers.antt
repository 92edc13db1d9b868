use Rattle.bites_spec.proofs.Laws as laws
use Rattle.bites_spec.proofs.matches_stand_apart.Goals as goal

pub returns : goal.returns
returns c = laws.matches_stand_apart
