use Rattle.bites_machine.proofs.Library.{◌≡◌, drop, paste}
use Rattle.bites_machine.proofs.vm.slot_table.copy_within.Given as goal

abbrev pub invariant-loop-k : goal.invariant-loop-k
invariant-loop-k l = l.slots ≡ paste l.initial.slots l.to (drop l.from l.initial.slots) l.k
