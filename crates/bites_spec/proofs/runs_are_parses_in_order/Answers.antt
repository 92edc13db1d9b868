use Rattle.bites_spec.proofs.Laws as laws
use Rattle.bites_spec.proofs.runs_are_parses_in_order.Goals as goal

pub returns : goal.returns
returns c = laws.runs_are_parses_in_order
