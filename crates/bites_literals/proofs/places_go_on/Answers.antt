use Rattle.bites_literals.proofs.LawLemmas.{places_go_on}
use Rattle.bites_literals.proofs.places_go_on.Goals as goal

pub returns : goal.returns
returns c = places_go_on
