use Rattle.bites_spec.proofs.Laws as laws
use Rattle.bites_spec.proofs.nothing_past_the_end.Goals as goal

pub returns : goal.returns
returns c = laws.nothing_past_the_end
