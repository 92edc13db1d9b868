use Rattle.bites_spec.proofs.Laws as laws
use Rattle.bites_spec.proofs.groups_in_texts_have_borders.Goals as goal

pub returns : goal.returns
returns c = laws.groups_in_texts_have_borders
