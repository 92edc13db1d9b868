use Rattle.std.proofs.Common.{◌≡◌, ◌++◌}
use Rattle.bites_spec.specs.Iteration.{captures_in}
use Rattle.regex_bites.specs.CapturesLeft.{captures_left}
use Rattle.bites_theorems.proofs.calls.over_texts.all_captures.Given as goal

abbrev pub invariant-loop-captures : goal.invariant-loop-captures
invariant-loop-captures l = l.all.items ++ captures_left l.captures-iterator ≡ captures_in l.regex l.haystack
