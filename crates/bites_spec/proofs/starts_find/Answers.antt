use Rattle.bites_spec.proofs.Laws as laws
use Rattle.bites_spec.proofs.starts_find.Goals as goal

pub returns : goal.returns
returns c = laws.starts_find
