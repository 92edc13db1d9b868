use Rattle.std.proofs.Common.{refl, ap, subst, ◌∙◌, chars}
use Rattle.std.specs.Prelude.{MatchOption}
use Rattle.bites_spec.specs.Tree.{Tree}
use Rattle.bites_spec.specs.Measure.{Limits}
use Rattle.bites_text.specs.Texts.{code_of}
use Rattle.bites_syntax.specs.Placed.{RefusesAt}
use Rattle.bites_c.specs.Errors.{reads, refuses, offset_for_c}
use Rattle.bites_c.specs.Words.{flags_in}
use Rattle.bites_c.proofs.error_calls.bites_error_at.Goals as goal

-- the text is the pattern, and the grammar reads it
pub returns-in-Ok-None-clause-answers : goal.returns-in-Ok-None-clause-answers
returns-in-Ok-None-clause-answers c utf8 =
    let read : (t : Tree) × Limits (chars c.in-Ok.text.now) (flags_in c.args.flags) c.args.nest_limit t =
    subst (λ o. MatchOption o ((t : Tree) × Limits (chars c.in-Ok.text.now) (flags_in c.args.flags) c.args.nest_limit t) (RefusesAt (chars c.in-Ok.text.now) (flags_in c.args.flags) c.args.nest_limit))
    c.in-Ok-None.field-0-is c.in-Ok-None.ensures in
    let here = subst (λ bytes. (t : Tree) × Limits (chars bytes) (flags_in c.args.flags) c.args.nest_limit t) c.in-Ok.ensures.cases.0 read in
    reads here.0 here.1 refl refl

-- the text is the pattern, and is refused
pub returns-in-Ok-Some-clause-answers : goal.returns-in-Ok-Some-clause-answers
returns-in-Ok-Some-clause-answers c utf8 =
    let told : RefusesAt (chars c.in-Ok.text.now) (flags_in c.args.flags) c.args.nest_limit c.in-Ok-Some.error =
    subst (λ o. MatchOption o ((t : Tree) × Limits (chars c.in-Ok.text.now) (flags_in c.args.flags) c.args.nest_limit t) (RefusesAt (chars c.in-Ok.text.now) (flags_in c.args.flags) c.args.nest_limit))
    c.in-Ok-Some.field-0-is c.in-Ok-Some.ensures in
    let here = subst (λ bytes. RefusesAt (chars bytes) (flags_in c.args.flags) c.args.nest_limit c.in-Ok-Some.error) c.in-Ok.ensures.cases.0 told in
    refuses c.in-Ok-Some.error here (c.number.ensures ∙ ap code_of c.error.ensures) (c.unwrap_or.ensures ∙ ap offset_for_c c.offset.ensures)
