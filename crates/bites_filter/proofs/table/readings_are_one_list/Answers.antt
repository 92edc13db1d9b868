use Rattle.bites_filter.proofs.TableLemmas.{one_list}
use Rattle.bites_filter.proofs.table.readings_are_one_list.Goals as goal

pub returns : goal.returns
returns c = one_list
