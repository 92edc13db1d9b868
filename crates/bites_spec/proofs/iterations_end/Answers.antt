use Rattle.bites_spec.proofs.Laws as laws
use Rattle.bites_spec.proofs.iterations_end.Goals as goal

pub returns : goal.returns
returns g c = laws.iterations_end _ _ _ _
