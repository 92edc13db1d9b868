use Rattle.bites_spec.proofs.Laws as laws
use Rattle.bites_spec.proofs.each_participates.Goals as goal

pub returns : goal.returns
returns c = laws.each_participates
