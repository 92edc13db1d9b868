use Rattle.std.proofs.Common.{◌+◌, ◌<◌, ℕ}
use Rattle.bites_literals.specs.Choice.{AllFrom}
use Rattle.bites_literals.proofs.choice.are_apart.Given as goal

abbrev pub invariant-loop-first : goal.invariant-loop-first
invariant-loop-first l = (k : ℕ) → k < l.first → AllFrom (k + 1) k l.texts
