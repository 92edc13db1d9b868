use Rattle.bites_machine.proofs.Library.{◌≡◌, paste}
use Rattle.bites_machine.proofs.vm.cache.read_places.Given as goal

abbrev pub invariant-loop-k : goal.invariant-loop-k
invariant-loop-k l = l.slots ≡ paste l.initial.slots 0 l.found l.k
