use Rattle.bites_spec.proofs.Laws as laws
use Rattle.bites_spec.proofs.anchored_matches_whole.Goals as goal

pub returns : goal.returns
returns c = laws.anchored_matches_whole
