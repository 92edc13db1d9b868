use Rattle.bites_spec.proofs.Laws as laws
use Rattle.bites_spec.proofs.pieces_of_texts_end_at_borders.Goals as goal

pub returns : goal.returns
returns c = laws.pieces_of_texts_end_at_borders
