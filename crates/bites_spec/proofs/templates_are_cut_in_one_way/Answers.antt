use Rattle.bites_spec.proofs.Laws as laws
use Rattle.bites_spec.proofs.templates_are_cut_in_one_way.Goals as goal

pub returns : goal.returns
returns c = laws.templates_are_cut_in_one_way
