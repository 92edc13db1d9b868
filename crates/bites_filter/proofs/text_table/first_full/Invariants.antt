use Rattle.std.proofs.Common.{◌≡◌, ℕ, ◌<◌}
use Rattle.bites_filter.specs.Table.{MatchesFull}
use Rattle.bites_filter.proofs.text_table.first_full.Given as goal

-- the rules are unchanged, and none so far matches the text
abbrev pub invariant-loop-number : goal.invariant-loop-number
invariant-loop-number l = (l.rules ≡ l.initial.rules) × ((k : ℕ) → k < l.number → MatchesFull l.initial.rules l.text k → ⊥)
