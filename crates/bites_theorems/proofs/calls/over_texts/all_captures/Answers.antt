use Rattle.std.proofs.Common.{◌++◌, subst, sym, ap, ◌∙◌}
use Rattle.std.proofs.lemmas.List.{append-nil}
use Rattle.bites_spec.specs.AllMatches.{AreCaptures}
use Rattle.bites_spec.proofs.Laws as laws
use Rattle.bites_theorems.proofs.calls.over_texts.all_captures.Goals as goal

pub returns : goal.returns
returns c =
    let r = c.args.regex.now in let hay = c.args.haystack.now in let all = c.loop-captures.all.items in
    subst (AreCaptures r hay)
    (sym c.loop-captures.invariant ∙ ap (λ l. all ++ l) c.in-None.ensures.steps.0 ∙ append-nil all)
    (laws.groups_are_successive r c.as_str.ensures.compiled hay)
