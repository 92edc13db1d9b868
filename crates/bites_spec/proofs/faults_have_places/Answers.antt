use Rattle.bites_spec.proofs.Laws as laws
use Rattle.bites_spec.proofs.faults_have_places.Goals as goal

pub returns : goal.returns
returns c = laws.faults_have_places
