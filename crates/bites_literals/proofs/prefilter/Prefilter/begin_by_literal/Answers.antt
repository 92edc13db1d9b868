use Rattle.std.proofs.Common.{Option, subst}
use Rattle.std.specs.Prelude.{IfSome}
use Rattle.bites_literals.specs.ByteRun.{IsByteRunOf}
use Rattle.bites_literals.specs.Choice.{IsChoice}
use Rattle.bites_literals.specs.declared.choice.Choice.{Choice}
use Rattle.bites_literals.specs.declared.byte_run.ByteRun.{ByteRun}
use Rattle.bites_literals.proofs.BeginLemmas.{begins_here}
use Rattle.bites_literals.proofs.LawLemmas.{whatever_end}
use Rattle.bites_literals.proofs.prefilter.Prefilter.begin_by_literal.Goals as goal

pub returns-in-Some-run-clause-begins : goal.returns-in-Some-run-clause-begins
returns-in-Some-run-clause-begins c t is = c.begin-in-Some-run.ensures.begins t (subst (λ (o : Option ByteRun). IfSome o (IsByteRunOf t)) c.in-Some-run.is is.run)

pub returns-in-None-clause-begins : goal.returns-in-None-clause-begins
returns-in-None-clause-begins c t is = begins_here t c.args.haystack.now c.args.start c.requires

pub returns-in-Some-choice-clause-begins : goal.returns-in-Some-choice-clause-begins
returns-in-Some-choice-clause-begins c t is =
    whatever_end c.args.with_end t c.args.haystack.now c.args.start c.begin_by_choice.result (c.begin_by_choice.ensures.begins t (subst (λ (o : Option Choice). IfSome o (IsChoice t)) c.in-Some-choice.is is.choice))
