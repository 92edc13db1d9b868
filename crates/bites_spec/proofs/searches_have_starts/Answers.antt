use Rattle.bites_spec.proofs.Laws as laws
use Rattle.bites_spec.proofs.searches_have_starts.Goals as goal

pub returns : goal.returns
returns c = laws.searches_have_starts
