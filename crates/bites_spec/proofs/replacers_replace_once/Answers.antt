use Rattle.bites_spec.proofs.Laws as laws
use Rattle.bites_spec.proofs.replacers_replace_once.Goals as goal

pub returns : goal.returns
returns g c = laws.replacers_replace_once _ _
