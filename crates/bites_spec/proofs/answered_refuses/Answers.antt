use Rattle.bites_spec.proofs.Laws as laws
use Rattle.bites_spec.proofs.answered_refuses.Goals as goal

pub returns : goal.returns
returns c = laws.answered_refuses
