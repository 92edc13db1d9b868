use Rattle.bites_spec.proofs.Laws as laws
use Rattle.bites_spec.proofs.least_ends_in_texts_are_borders.Goals as goal

pub returns : goal.returns
returns c = laws.least_ends_in_texts_are_borders
