use Rattle.bites_spec.proofs.Laws as laws
use Rattle.bites_spec.proofs.parses_end_at_matches.Goals as goal

pub returns : goal.returns
returns c = laws.parses_end_at_matches
