use Rattle.bites_spec.proofs.Laws as laws
use Rattle.bites_spec.proofs.answers_have_group_0.Goals as goal

pub returns : goal.returns
returns c = laws.answers_have_group_0
