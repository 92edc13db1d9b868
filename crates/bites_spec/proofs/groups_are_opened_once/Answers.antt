use Rattle.bites_spec.proofs.Laws as laws
use Rattle.bites_spec.proofs.groups_are_opened_once.Goals as goal

pub returns : goal.returns
returns c = laws.groups_are_opened_once
