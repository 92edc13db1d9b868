use Rattle.bites_spec.proofs.Laws as laws
use Rattle.bites_spec.proofs.refused_patterns_have_no_tree.Goals as goal

pub returns : goal.returns
returns c = laws.refused_patterns_have_no_tree
