use Rattle.bites_spec.proofs.Laws as laws
use Rattle.bites_spec.proofs.escaped_texts_are_read.Goals as goal

pub returns : goal.returns
returns c = laws.escaped_texts_are_read
