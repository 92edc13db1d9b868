use Rattle.bites_table.proofs.ExampleLemmas.{transitions_refuse}
use Rattle.bites_table.proofs.transitions_refuse.Goals as goal

pub returns : goal.returns
returns c = transitions_refuse
