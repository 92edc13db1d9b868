use Rattle.bites_spec.proofs.Laws as laws
use Rattle.bites_spec.proofs.borders_refuse.Goals as goal

pub returns : goal.returns
returns c = laws.borders_refuse
