use Rattle.bites_spec.proofs.Laws as laws
use Rattle.bites_spec.proofs.templates_have_one_text.Goals as goal

pub returns : goal.returns
returns c = laws.templates_have_one_text
