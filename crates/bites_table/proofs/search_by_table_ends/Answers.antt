use Rattle.bites_table.proofs.TableLemmas.{ends}
use Rattle.bites_table.proofs.search_by_table_ends.Goals as goal

pub returns : goal.returns
returns c p k classes tab right x n a b reached = ends p k classes tab right x reached.one_place n a b reached
