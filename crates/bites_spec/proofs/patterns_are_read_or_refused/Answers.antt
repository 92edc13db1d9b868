use Rattle.bites_spec.proofs.Laws as laws
use Rattle.bites_spec.proofs.patterns_are_read_or_refused.Goals as goal

pub returns : goal.returns
returns c = laws.patterns_are_read_or_refused
