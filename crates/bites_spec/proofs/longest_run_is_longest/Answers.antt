use Rattle.bites_spec.proofs.Laws as laws
use Rattle.bites_spec.proofs.longest_run_is_longest.Goals as goal

pub returns : goal.returns
returns c = laws.longest_run_is_longest
