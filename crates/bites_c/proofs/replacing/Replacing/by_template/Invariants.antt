use Rattle.std.proofs.Common.{length}
use Rattle.bites_spec.specs.Replaced.{span_in}
use Rattle.bites_spec.specs.Replacer.{expanded}
use Rattle.bites_c.specs.Handles.{SearchFinds}
use Rattle.bites_c.specs.Replacing.{GoesOn, captures_left}
use Rattle.bites_c.proofs.replacing.Replacing.by_template.Given as goal

abbrev pub invariant-loop : goal.invariant-loop
invariant-loop l =
    SearchFinds l.fn.search l.search
    (GoesOn (captures_left l.fn.search.held.value.regex) span_in (λ c. expanded c l.template) l.fn.self l.self)

abbrev pub decreases-loop : goal.decreases-loop
decreases-loop l = length (captures_left l.fn.search.held.value.regex l.self)
