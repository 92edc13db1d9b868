use Rattle.bites_spec.proofs.Laws as laws
use Rattle.bites_spec.proofs.places_of_texts_are_borders.Goals as goal

pub returns : goal.returns
returns c = laws.places_of_texts_are_borders
