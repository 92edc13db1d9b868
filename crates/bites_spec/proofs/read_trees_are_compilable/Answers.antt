use Rattle.bites_spec.proofs.Laws as laws
use Rattle.bites_spec.proofs.read_trees_are_compilable.Goals as goal

pub returns : goal.returns
returns c = laws.read_trees_are_compilable
