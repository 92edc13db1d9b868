use Rattle.bites_spec.proofs.Laws as laws
use Rattle.bites_spec.proofs.visits_refuse.Goals as goal

pub returns : goal.returns
returns c = laws.visits_refuse
