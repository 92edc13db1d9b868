use Rattle.bites_spec.proofs.Laws as laws
use Rattle.bites_spec.proofs.plain_templates_stand_for_themselves.Goals as goal

pub returns : goal.returns
returns c = laws.plain_templates_stand_for_themselves
