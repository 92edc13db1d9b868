use Rattle.bites_spec.proofs.Laws as laws
use Rattle.bites_spec.proofs.none_is_left_out.Goals as goal

pub returns : goal.returns
returns c = laws.none_is_left_out
