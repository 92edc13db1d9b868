use Rattle.bites_spec.proofs.Laws as laws
use Rattle.bites_spec.proofs.patterns_have_one_offset.Goals as goal

pub returns : goal.returns
returns c = laws.patterns_have_one_offset
