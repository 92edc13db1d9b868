use Rattle.bites_table.proofs.BlockLemmas.{AreMembersOf}
use Rattle.bites_table.proofs.classes.members_of.Given as goal

abbrev pub invariant-loop-interval : goal.invariant-loop-interval
invariant-loop-interval l = AreMembersOf l.begins l.blocks l.members.items l.interval
