use Rattle.bites_spec.proofs.Laws as laws
use Rattle.bites_spec.proofs.ranges_of_a_set_list_it.Goals as goal

pub returns : goal.returns
returns c = laws.ranges_of_a_set_list_it
