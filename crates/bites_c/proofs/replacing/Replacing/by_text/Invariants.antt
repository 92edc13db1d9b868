use Rattle.std.proofs.Common.{length}
use Rattle.bites_c.specs.Handles.{SearchFinds}
use Rattle.bites_c.specs.Replacing.{GoesOn, spans_left}
use Rattle.bites_c.proofs.replacing.Replacing.by_text.Given as goal

-- the search still has its regex, and what is written in the end stays the same
abbrev pub invariant-loop : goal.invariant-loop
invariant-loop l =
    SearchFinds l.fn.search l.search (GoesOn (spans_left l.fn.search.held.value.regex) (λ x. x) (λ x. l.text) l.fn.self l.self)

abbrev pub decreases-loop : goal.decreases-loop
decreases-loop l = length (spans_left l.fn.search.held.value.regex l.self)
