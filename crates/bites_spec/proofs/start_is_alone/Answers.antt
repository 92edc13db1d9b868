use Rattle.bites_spec.proofs.Laws as laws
use Rattle.bites_spec.proofs.start_is_alone.Goals as goal

pub returns : goal.returns
returns c = laws.start_is_alone
