use Rattle.bites_table.specs.LaidOut.{AreFirstLists}
use Rattle.bites_table.proofs.table.layout.lists_of.Given as goal

abbrev pub invariant-loop-number : goal.invariant-loop-number
invariant-loop-number l = AreFirstLists l.graph l.number l.lists
