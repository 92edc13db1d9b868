use Rattle.bites_spec.proofs.Laws as laws
use Rattle.bites_spec.proofs.stuck_brackets_are_not_read.Goals as goal

pub returns : goal.returns
returns c = laws.stuck_brackets_are_not_read
