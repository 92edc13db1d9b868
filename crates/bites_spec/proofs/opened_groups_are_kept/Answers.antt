use Rattle.bites_spec.proofs.Laws as laws
use Rattle.bites_spec.proofs.opened_groups_are_kept.Goals as goal

pub returns : goal.returns
returns c = laws.opened_groups_are_kept
