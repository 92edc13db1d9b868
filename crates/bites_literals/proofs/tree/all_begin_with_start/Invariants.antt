use Rattle.std.proofs.Common.{◌≡◌, ◌⊎◌, ℕ, List, drop}
use Rattle.bites_spec.specs.Match.{MatchesOne}
use Rattle.bites_spec.specs.Tree.{trees_of}
use Rattle.bites_literals.proofs.tree.all_begin_with_start.Given as goal

abbrev pub invariant-loop-branch : goal.invariant-loop-branch
invariant-loop-branch l =
    (hay : List ℕ) (i j : ℕ) → MatchesOne hay (trees_of l.branches) i j → (i ≡ 0) ⊎ MatchesOne hay (trees_of (drop l.branch-index l.branches)) i j
