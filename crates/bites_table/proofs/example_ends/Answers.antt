use Rattle.bites_table.proofs.ExampleLemmas.{example_ends}
use Rattle.bites_table.proofs.example_ends.Goals as goal

pub returns : goal.returns
returns c = example_ends
