use Rattle.bites_table.proofs.TableLemmas.{passes}
use Rattle.bites_table.proofs.search_by_table_passes.Goals as goal

pub returns : goal.returns
returns c p k classes tab right x n a t reached = passes p k classes tab right x reached.one_place n a t reached
