use Rattle.std.proofs.Common.{Option, subst, arith}
use Rattle.std.specs.Prelude.{IfSome}
use Rattle.bites_literals.specs.ByteRun.{IsByteRunOf}
use Rattle.bites_literals.specs.declared.byte_run.ByteRun.{ByteRun}
use Rattle.bites_literals.proofs.CandidateLemmas.{no_part_here}
use Rattle.bites_literals.proofs.prefilter.Prefilter.candidate.Goals as goal

pub returns-in-Some-run : goal.returns-in-Some-run
returns-in-Some-run c t is = c.candidate-in-Some-run.ensures t (subst (λ (o : Option ByteRun). IfSome o (IsByteRunOf t)) c.in-Some-run.is is.run)

pub returns-in-None : goal.returns-in-None
returns-in-None c t is = (omega arith, c.requires, no_part_here t c.args.haystack.now c.args.start)
