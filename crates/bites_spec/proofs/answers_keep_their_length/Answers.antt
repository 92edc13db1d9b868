use Rattle.bites_spec.proofs.Laws as laws
use Rattle.bites_spec.proofs.answers_keep_their_length.Goals as goal

pub returns : goal.returns
returns c = laws.answers_keep_their_length
