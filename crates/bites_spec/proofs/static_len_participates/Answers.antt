use Rattle.bites_spec.proofs.Laws as laws
use Rattle.bites_spec.proofs.static_len_participates.Goals as goal

pub returns : goal.returns
returns c = laws.static_len_participates
