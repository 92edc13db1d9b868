use Rattle.bites_spec.proofs.Laws as laws
use Rattle.bites_spec.proofs.its_groups_refuse.Goals as goal

pub returns : goal.returns
returns c = laws.its_groups_refuse
