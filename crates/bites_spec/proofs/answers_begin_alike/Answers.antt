use Rattle.bites_spec.proofs.Laws as laws
use Rattle.bites_spec.proofs.answers_begin_alike.Goals as goal

pub returns : goal.returns
returns c = laws.answers_begin_alike
