use Rattle.bites_spec.proofs.Laws as laws
use Rattle.bites_spec.proofs.kept_answer_alike.Goals as goal

pub returns : goal.returns
returns c = laws.kept_answer_alike
