use Rattle.bites_spec.proofs.Laws as laws
use Rattle.bites_spec.proofs.matches_have_borders.Goals as goal

pub returns : goal.returns
returns c = laws.matches_have_borders
