use Rattle.bites_machine.proofs.Library.{◌≡◌, take, bytes_of}
use Rattle.bites_machine.proofs.groups.names_of.Given as goal

abbrev pub invariant-loop-i : goal.invariant-loop-i
invariant-loop-i l = bytes_of l.names.items ≡ take l.i l.groups
