use Rattle.bites_machine.proofs.Library.{◌≡◌, emitted, again, emit, class}
use Rattle.bites_machine.proofs.emit.States.classes.Given as goal

abbrev pub invariant-loop : goal.invariant-loop
invariant-loop l = emitted l.self l.from ≡ again l.counter (emit (class l.class)) l.to l.initial.self
