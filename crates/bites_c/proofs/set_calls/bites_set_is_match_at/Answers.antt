use Rattle.std.proofs.Common.{List, ap, ◌∙◌, rules}
use Rattle.std.specs.Prelude.{⊤}
use Rattle.bites_spec.specs.Regex.{Regex}
use Rattle.bites_spec.specs.Set.{HasMatchOfAny}
use Rattle.bites_spec.specs.Utf8.{places}
use Rattle.bites_c.specs.Searched.{AnswersIf}
use Rattle.bites_c.specs.Sets.{SetHeld}
use Rattle.bites_c.proofs.SetLemmas.{refused_set}
use Rattle.bites_c.proofs.set_calls.bites_set_is_match_at.Goals as goal

pub returns-in-Some-fault_from : goal.returns-in-Some-fault_from
returns-in-Some-fault_from c =
    let hay = c.args.haystack.now in let start = c.args.start in let code = c.in-Some-fault_from.code in
    refused_set hay start c.args.set.now.held _ c.in-Some.held.value c.is_text.result code ⊤
    (λ (rs : List Regex). AnswersIf code (HasMatchOfAny rs hay (places hay start)))
    c.in-Some.ensures.taken c.of.ensures
    (c.is_text.ensures ∙ ap (λ (h : SetHeld). h.is_text) c.deref.ensures) tt c.in-Some-fault_from.ensures

pub returns-then-found : goal.returns-then-found
returns-then-found c = search rules
