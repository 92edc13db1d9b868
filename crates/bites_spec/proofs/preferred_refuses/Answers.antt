use Rattle.bites_spec.proofs.Laws as laws
use Rattle.bites_spec.proofs.preferred_refuses.Goals as goal

pub returns : goal.returns
returns c = laws.preferred_refuses
