use Rattle.bites_spec.proofs.Laws as laws
use Rattle.bites_spec.proofs.every_set_has_ranges.Goals as goal

pub returns : goal.returns
returns c = laws.every_set_has_ranges
