use Rattle.bites_spec.proofs.Laws as laws
use Rattle.bites_spec.proofs.what_is_found_in_texts_has_borders.Goals as goal

pub returns : goal.returns
returns c = laws.what_is_found_in_texts_has_borders
