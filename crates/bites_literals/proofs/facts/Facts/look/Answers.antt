use Rattle.bites_literals.proofs.FactLemmas.{look_facts}
use Rattle.bites_literals.proofs.facts.Facts.look.Goals as goal

pub returns : goal.returns
returns c = look_facts c.empty.result c.empty.ensures
