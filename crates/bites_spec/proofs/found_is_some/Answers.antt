use Rattle.bites_spec.proofs.Laws as laws
use Rattle.bites_spec.proofs.found_is_some.Goals as goal

pub returns : goal.returns
returns c = laws.found_is_some
