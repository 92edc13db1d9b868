use Rattle.bites_table.proofs.ExampleLemmas.{example_is_table}
use Rattle.bites_table.proofs.example_is_table.Goals as goal

pub returns : goal.returns
returns c = example_is_table
