use Rattle.bites_spec.proofs.Laws as laws
use Rattle.bites_spec.proofs.successive_answers_are_mapped.Goals as goal

pub returns : goal.returns
returns g c = laws.successive_answers_are_mapped _ _
