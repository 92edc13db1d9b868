use Rattle.bites_spec.proofs.Laws as laws
use Rattle.bites_spec.proofs.names_are_ascii.Goals as goal

pub returns : goal.returns
returns c = laws.names_are_ascii
