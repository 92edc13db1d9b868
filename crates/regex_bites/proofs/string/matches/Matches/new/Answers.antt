use Rattle.std.proofs.Common.{◌≡◌, sym, subst, map}
use Rattle.std.specs.List.{AllByRecursion}
use Rattle.bites_spec.specs.Captured.{excerpt}
use Rattle.bites_spec.specs.Iteration.{spans_in}
use Rattle.bites_bytes.specs.Matches.{matches_left}
use Rattle.regex_bites.specs.Borders.{IsPart}
use Rattle.regex_bites.specs.Order.{BeginFrom}
use Rattle.regex_bites.proofs.BorderLemmas.{over_text, spans_parts, spans_ordered}
use Rattle.regex_bites.proofs.string.matches.Matches.new.Goals as goal

pub invariant_of-result : goal.invariant_of-result
invariant_of-result c =
    let left = over_text (λ r h. matches_left c.in_ok-matches.matches ≡ map (excerpt h) (spans_in r h))
    _ _ _ _ c.over_bytes-regex.ensures.same c.as_bytes.ensures.value c.in_ok-matches.ensures in
    record { parts = subst (AllByRecursion (IsPart c.args.haystack.now)) (sym left) (spans_parts c.args.haystack.now c.utf8.haystack c.args.regex.now c.over_bytes-regex.ensures.compiled) }

pub returns-clause-in_order : goal.returns-clause-in_order
returns-clause-in_order c =
    let left = over_text (λ r h. matches_left c.in_ok-matches.matches ≡ map (excerpt h) (spans_in r h))
    _ _ _ _ c.over_bytes-regex.ensures.same c.as_bytes.ensures.value c.in_ok-matches.ensures in
    subst (λ es. BeginFrom 0 (map (λ e. e.span) es)) (sym left) (spans_ordered c.args.haystack.now c.utf8.haystack c.args.regex.now c.over_bytes-regex.ensures.compiled)
