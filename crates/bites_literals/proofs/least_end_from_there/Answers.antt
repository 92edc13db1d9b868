use Rattle.bites_literals.proofs.LawLemmas.{least_end_from_there}
use Rattle.bites_literals.proofs.least_end_from_there.Goals as goal

pub returns : goal.returns
returns c = least_end_from_there
