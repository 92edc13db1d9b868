use Rattle.bites_machine.proofs.Library.{◌≡◌, None, replicate, bytes_of}
use Rattle.bites_machine.proofs.groups.no_names.Given as goal

abbrev pub invariant-loop : goal.invariant-loop
invariant-loop l = bytes_of l.names.items ≡ replicate l.counter None
