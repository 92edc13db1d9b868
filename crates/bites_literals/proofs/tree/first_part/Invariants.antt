use Rattle.bites_literals.specs.Begins.{BeginsAtStart}
use Rattle.bites_literals.proofs.tree.first_part.Given as goal

abbrev pub invariant-loop : goal.invariant-loop
invariant-loop l = BeginsAtStart l.part → BeginsAtStart l.tree
