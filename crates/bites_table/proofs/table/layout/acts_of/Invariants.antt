use Rattle.bites_table.specs.LaidOut.{AreFirstActs}
use Rattle.bites_table.proofs.table.layout.acts_of.Given as goal

abbrev pub invariant-loop-number : goal.invariant-loop-number
invariant-loop-number l = AreFirstActs l.graph l.slots l.stride l.number l.acts
