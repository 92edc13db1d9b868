use Rattle.bites_spec.proofs.Laws as laws
use Rattle.bites_spec.proofs.successive_answers_go_on.Goals as goal

pub returns : goal.returns
returns g c = laws.successive_answers_go_on _
