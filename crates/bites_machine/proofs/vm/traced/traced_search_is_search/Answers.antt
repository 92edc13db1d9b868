use Rattle.bites_machine.proofs.model.MachineOnce.{traced_is_search}
use Rattle.bites_machine.proofs.vm.traced.traced_search_is_search.Goals as goal

pub returns : goal.returns
returns c = traced_is_search
