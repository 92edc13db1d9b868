use Rattle.bites_spec.proofs.Laws as laws
use Rattle.bites_spec.proofs.matches_in_texts_end_at_borders.Goals as goal

pub returns : goal.returns
returns c = laws.matches_in_texts_end_at_borders
