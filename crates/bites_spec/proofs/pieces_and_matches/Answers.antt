use Rattle.bites_spec.proofs.Laws as laws
use Rattle.bites_spec.proofs.pieces_and_matches.Goals as goal

pub returns : goal.returns
returns c = laws.pieces_and_matches
