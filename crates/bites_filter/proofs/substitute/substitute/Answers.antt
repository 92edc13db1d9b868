use Rattle.std.proofs.Common.{subst}
use Rattle.std.specs.Cow.{cow_slice_items}
use Rattle.bites_spec.specs.Regex.{Regex, IsCompiled}
use Rattle.bites_filter.proofs.SubstitutedLemmas.{substituted, unchanged}
use Rattle.bites_filter.proofs.substitute.substitute.Goals as goal

pub returns-clause-substitutes : goal.returns-clause-substitutes
returns-clause-substitutes c =
    let gave = c.in_ok-replaced.ensures.found.replaces in let r = c.args.searcher.now in
    substituted (λ s. s.now) c.templates_have_one_text.ensures c.groups_are_successive.ensures r
    (subst (λ (q : Regex). IsCompiled q) c.regex.ensures c.as_str.ensures.compiled) c.args.haystack.now (cow_slice_items c.in_ok-replaced.replaced)
    c.args.limit c.args.template gave.0 gave.1

pub returns-clause-unchanged : goal.returns-clause-unchanged
returns-clause-unchanged c =
    let gave = c.in_ok-replaced.ensures.found.replaces in let new = cow_slice_items c.in_ok-replaced.replaced in let text = c.args.haystack.now in
    let r = c.args.searcher.now in
    unchanged c.captures_are_matches.ensures c.none_is_left_out.ensures r c.args.template.now text new c.args.limit
    (substituted (λ s. s.now) c.templates_have_one_text.ensures c.groups_are_successive.ensures r
    (subst (λ (q : Regex). IsCompiled q) c.regex.ensures c.as_str.ensures.compiled) text new c.args.limit c.args.template gave.0 gave.1)
