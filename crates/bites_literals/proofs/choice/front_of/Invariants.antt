use Rattle.std.proofs.Common.{drop}
use Rattle.bites_spec.specs.Tree.{trees_of}
use Rattle.bites_literals.specs.Choice.{StandsBefore}
use Rattle.bites_literals.proofs.choice.front_of.Given as goal

abbrev pub invariant-loop-i : goal.invariant-loop-i
invariant-loop-i l = StandsBefore l.front (trees_of l.parts) l.longer (trees_of (drop l.i l.parts))
