use Rattle.std.proofs.Common.{◌∙◌, ℕ, List, subst}
use Rattle.std.specs.Prelude.{MatchOption, IfOk, IsUtf8}
use Rattle.bites_filter.specs.Table.{NamedRegex, NoneMatches, IsFirst}
use Rattle.bites_filter.proofs.text_table.TextTable.first_full.Goals as goal

pub returns-in-Ok-clause-first : goal.returns-in-Ok-clause-first
returns-in-Ok-clause-first c =
    let found = c.first_full.result in let rules = c.args.self.now in
    subst (λ (t : List ℕ). IfOk found (λ r. MatchOption r (IsUtf8 t → NoneMatches rules t) (λ x. IsFirst rules t x.rule x.groups.slots)))
    c.in-Ok.ensures.cases.0
    (subst (λ (rs : List NamedRegex). IfOk found (λ r. MatchOption r (IsUtf8 c.in-Ok.text.now → NoneMatches rs c.in-Ok.text.now)
    (λ x. IsFirst rs c.in-Ok.text.now x.rule x.groups.slots))) (c.as_mut_slice.ensures.value ∙ c.self.view_is) c.first_full.ensures.first)
