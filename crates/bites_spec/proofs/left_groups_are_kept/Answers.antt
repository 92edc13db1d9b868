use Rattle.bites_spec.proofs.Laws as laws
use Rattle.bites_spec.proofs.left_groups_are_kept.Goals as goal

pub returns : goal.returns
returns c = laws.left_groups_are_kept
