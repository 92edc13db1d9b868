use Rattle.bites_spec.proofs.Laws as laws
use Rattle.bites_spec.proofs.found_lies.Goals as goal

pub returns : goal.returns
returns c = laws.found_lies
