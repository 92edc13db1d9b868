use Rattle.bites_literals.proofs.LawLemmas.{finds_from_there}
use Rattle.bites_literals.proofs.finds_from_there.Goals as goal

pub returns : goal.returns
returns c = finds_from_there
