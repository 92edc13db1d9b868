use Rattle.bites_spec.proofs.Laws as laws
use Rattle.bites_spec.proofs.captures_are_matches.Goals as goal

pub returns : goal.returns
returns c = laws.captures_are_matches
