use Rattle.bites_spec.specs.Look.{end}
use Rattle.bites_literals.proofs.FactLemmas.{end_facts}
use Rattle.bites_literals.proofs.facts.Facts.end.Goals as goal

pub returns : goal.returns
returns c = end_facts c.look.result (c.look.ensures end)
