use Rattle.bites_spec.proofs.Laws as laws
use Rattle.bites_spec.proofs.replaced_is_joined.Goals as goal

pub returns : goal.returns
returns c = laws.replaced_is_joined
