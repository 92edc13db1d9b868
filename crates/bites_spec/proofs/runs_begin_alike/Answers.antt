use Rattle.bites_spec.proofs.Laws as laws
use Rattle.bites_spec.proofs.runs_begin_alike.Goals as goal

pub returns : goal.returns
returns c = laws.runs_begin_alike
