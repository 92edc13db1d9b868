use Rattle.bites_spec.proofs.Laws as laws
use Rattle.bites_spec.proofs.unions_are_listed.Goals as goal

pub returns : goal.returns
returns c = laws.unions_are_listed
