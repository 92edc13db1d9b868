use Rattle.bites_spec.proofs.Laws as laws
use Rattle.bites_spec.proofs.appends_refuse.Goals as goal

pub returns : goal.returns
returns c = laws.appends_refuse
