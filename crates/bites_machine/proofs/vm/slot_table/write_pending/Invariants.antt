use Rattle.bites_machine.proofs.Library.{◌≡◌, drop, with_pending}
use Rattle.bites_machine.proofs.vm.slot_table.write_pending.Given as goal

abbrev pub invariant-loop-slot : goal.invariant-loop-slot
invariant-loop-slot l = with_pending l.place (drop l.slot-index l.pending) l.slots ≡ with_pending l.place l.pending l.initial.slots
