use Rattle.std.proofs.Common.{Option, List, subst, sym, ◌∙◌, true≢false, arith}
use Rattle.std.specs.Prelude.{IfSome}
use Rattle.bites_scan.specs.Literal.{Needle}
use Rattle.bites_scan.specs.LiteralSet.{SomeOccursAt}
use Rattle.bites_literals.specs.Begins.{IsEnd, IsNear}
use Rattle.bites_literals.specs.Choice.{IsChoice}
use Rattle.bites_literals.specs.Texts.{EndsWith, bytes_of}
use Rattle.bites_literals.specs.declared.choice.Choice.{Choice}
use Rattle.bites_literals.specs.declared.prefilter.End.{End}
use Rattle.bites_literals.specs.declared.prefilter.Near.{Near}
use Rattle.bites_literals.proofs.BeginLemmas.{occurs}
use Rattle.bites_literals.proofs.TextLemmas.{end_longer}
use Rattle.bites_literals.proofs.prefilter.Prefilter.may_match.Goals as goal

pub returns-in-Some-near : goal.returns-in-Some-near
returns-in-Some-near c t i j is runs m =
    let near : IsNear t c.in-Some-near.near = subst (λ (o : Option Near). IfSome o (IsNear t)) c.in-Some-near.is is.near in
    let held = near.holds c.args.haystack.now i j m in
    c.may_hold.ensures c.args.haystack.now held.at runs (occurs c.in-Some-near.near.literal.caseless c.in-Some-near.near.literal.bytes c.args.haystack.now held.at near.some held.stands)

pub returns-in-Some-choice : goal.returns-in-Some-choice
returns-in-Some-choice c t i j is runs m =
    let choice : IsChoice t c.in-Some-choice.choice = subst (λ (o : Option Choice). IfSome o (IsChoice t)) c.in-Some-choice.is is.choice in
    c.may_occur.ensures c.args.haystack.now i runs (subst (λ (ns : List Needle). SomeOccursAt ns c.args.haystack.now i) (sym c.deref.ensures) (choice.begins c.args.haystack.now i j m))

pub returns : goal.returns
returns c t i j is runs m =
    let hay = c.args.haystack.now in
    let end : IsEnd t c.in-Some.end = subst (λ (o : Option End). IfSome o (IsEnd t)) c.in-Some.is is.end in
    let suffix = c.in-Some.end.suffix in
    let text = end_longer suffix.caseless (bytes_of suffix) hay 0 i j (omega arith) (end.suffix hay i j m) in
    absurd (true≢false (sym (c.ends.ensures.1 (subst (EndsWith suffix.caseless (bytes_of suffix) hay 0) (end.ends hay i j m) text)) ∙ c.if-not-ends.true))
