use Rattle.bites_spec.proofs.Laws as laws
use Rattle.bites_spec.proofs.names_in_texts_are_texts.Goals as goal

pub returns : goal.returns
returns c = laws.names_in_texts_are_texts
