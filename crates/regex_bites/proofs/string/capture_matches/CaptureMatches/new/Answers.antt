use Rattle.std.proofs.Common.{◌≡◌, map, sym, subst}
use Rattle.std.specs.List.{AllByRecursion}
use Rattle.bites_spec.specs.Iteration.{captures_in}
use Rattle.bites_spec.specs.Replaced.{span_in}
use Rattle.bites_bytes.specs.CapturesLeft.{captures_left}
use Rattle.regex_bites.specs.Borders.{AreGroupsOf}
use Rattle.regex_bites.specs.Order.{BeginFrom}
use Rattle.regex_bites.proofs.BorderLemmas.{over_text, captures_groups}
use Rattle.regex_bites.proofs.ReplacingLemmas.{captures_ordered}
use Rattle.regex_bites.proofs.string.capture_matches.CaptureMatches.new.Goals as goal

pub invariant_of-result : goal.invariant_of-result
invariant_of-result c =
    let left = over_text (λ r h. captures_left c.in_ok-matches.matches ≡ captures_in r h)
    _ _ _ _ c.over_bytes-regex.ensures.same c.as_bytes.ensures.value c.in_ok-matches.ensures in
    record { groups = subst (AllByRecursion (AreGroupsOf c.args.haystack.now)) (sym left) (captures_groups c.args.haystack.now c.utf8.haystack c.args.regex.now c.over_bytes-regex.ensures.compiled) }

pub returns-clause-in_order : goal.returns-clause-in_order
returns-clause-in_order c =
    let left = over_text (λ r h. captures_left c.in_ok-matches.matches ≡ captures_in r h)
    _ _ _ _ c.over_bytes-regex.ensures.same c.as_bytes.ensures.value c.in_ok-matches.ensures in
    subst (λ cs. BeginFrom 0 (map span_in cs)) (sym left) (captures_ordered c.args.haystack.now c.utf8.haystack c.args.regex.now c.over_bytes-regex.ensures.compiled)
