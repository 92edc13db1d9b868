use Rattle.bites_spec.proofs.Laws as laws
use Rattle.bites_spec.proofs.group_0_is_span.Goals as goal

pub returns : goal.returns
returns c = laws.group_0_is_span
