use Rattle.bites_table.proofs.TableLemmas.{runs}
use Rattle.bites_table.proofs.search_by_table_runs.Goals as goal

pub returns : goal.returns
returns c p k classes tab right x n m a b reached = runs p k classes tab right x reached.one_place n m a b reached
