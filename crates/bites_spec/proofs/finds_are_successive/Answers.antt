use Rattle.bites_spec.proofs.Laws as laws
use Rattle.bites_spec.proofs.finds_are_successive.Goals as goal

pub returns : goal.returns
returns c = laws.finds_are_successive
