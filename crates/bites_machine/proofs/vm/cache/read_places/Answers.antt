use Rattle.bites_machine.proofs.Library.{arith}
use Rattle.bites_machine.proofs.tables.RowLemmas.{read_more}
use Rattle.bites_machine.proofs.vm.cache.read_places.Goals as goal

pub loop-k-preserved : goal.loop-k-preserved
loop-k-preserved c = search (arith, read_more)
