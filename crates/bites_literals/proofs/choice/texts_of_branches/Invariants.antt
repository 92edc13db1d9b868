use Rattle.std.proofs.Common.{drop}
use Rattle.bites_spec.specs.Tree.{trees_of}
use Rattle.bites_literals.proofs.ChoiceLemmas.{HasBranches}
use Rattle.bites_literals.proofs.choice.texts_of_branches.Given as goal

abbrev pub invariant-loop-number : goal.invariant-loop-number
invariant-loop-number l = HasBranches (trees_of l.parts) (trees_of (drop l.number l.parts)) l.texts.items
