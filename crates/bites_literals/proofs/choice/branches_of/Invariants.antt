use Rattle.bites_literals.specs.Choice.{MatchAlike}
use Rattle.bites_literals.proofs.choice.branches_of.Given as goal

abbrev pub invariant-loop : goal.invariant-loop
invariant-loop l = MatchAlike l.part l.tree
