use Rattle.std.proofs.Common.{◌∙◌, sym, ap, subst}
use Rattle.bites_spec.specs.Counts.{fit_of}
use Rattle.bites_spec.specs.Regex.{Regex}
use Rattle.bites_bytes.specs.Replacing.{StepsBy, captures_to_replace}
use Rattle.bites_bytes.proofs.ReplacedLemmas.{on_err}
use Rattle.bites_bytes.proofs.ReplacingLemmas.{step_on, on_on, some_none, serves_on}
use Rattle.bites_bytes.proofs.bytes.replace.Replacing.by.Goals as goal

pub loop-preserved : goal.loop-preserved
loop-preserved g c =
    let R = g.R.Replacer in let l = c.loop in let t = c.step_by.new in let e = c.in_ok-step_by.ensures.steps in
    let steps = subst (λ b. StepsBy R.replaces R.answers l.self l.replacer b t.self t.replacer) c.if-branch.true e.found in
    let on = step_on R.replaces R.answers l.self l.replacer t.self t.replacer steps in
    record {
      served = serves_on R.replaces R.answers R.refuses (captures_to_replace c.args.self.now) c.args.replacer.now (captures_to_replace l.self) l.replacer l.invariant.served
          steps.0 (captures_to_replace t.self) steps.2 steps.1 t.replacer steps.3;
      on = on_on R.replaces R.answers c.args.self.now c.args.replacer.now l.self l.replacer t.self t.replacer l.invariant.on on;
      fits = e.len ∙ l.invariant.fits ∙ ap (λ (r : Regex). r.program.slots) (sym on.same.0);
      cache = e.fits ∙ l.invariant.cache ∙ ap (λ (r : Regex). fit_of r.program) (sym on.same.0);
      kept = e.fits ∙ l.invariant.kept;
    }

pub returns-in_err-step_by-clause-served : goal.returns-in_err-step_by-clause-served
returns-in_err-step_by-clause-served g c =
    let R = g.R.Replacer in let l = c.loop in let q = c.step_by.new.replacer in
    on_err c.from_residual.result _
    (l.invariant.served q (some_none R.replaces R.answers R.refuses l.replacer (captures_to_replace l.self) q c.in_err-step_by.ensures.stops))
