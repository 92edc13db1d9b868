use Rattle.std.proofs.Common.{◌≡◌}
use Rattle.bites_filter.proofs.TableLemmas.{IsBest}
use Rattle.bites_filter.proofs.table.furthest.Given as goal

-- the rules are unchanged, and the reading is the best of those so far
abbrev pub invariant-loop-number : goal.invariant-loop-number
invariant-loop-number l = (l.rules ≡ l.initial.rules) × IsBest l.initial.rules l.text l.start l.number l.reading.rule l.reading.end
