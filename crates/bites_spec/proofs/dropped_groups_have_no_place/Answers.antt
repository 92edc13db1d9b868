use Rattle.bites_spec.proofs.Laws as laws
use Rattle.bites_spec.proofs.dropped_groups_have_no_place.Goals as goal

pub returns : goal.returns
returns c = laws.dropped_groups_have_no_place
