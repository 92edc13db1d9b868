use Rattle.bites_spec.proofs.Laws as laws
use Rattle.bites_spec.proofs.chosen_run_lies.Goals as goal

pub returns : goal.returns
returns c = laws.chosen_run_lies
