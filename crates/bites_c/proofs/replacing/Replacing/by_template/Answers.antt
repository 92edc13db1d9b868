use Rattle.bites_spec.specs.Replaced.{span_in}
use Rattle.bites_spec.specs.Replacer.{expanded}
use Rattle.bites_c.specs.Replacing.{captures_left}
use Rattle.bites_c.proofs.ReplacingLemmas.{step_more}
use Rattle.bites_c.proofs.replacing.Replacing.by_template.Goals as goal

pub loop-preserved : goal.loop-preserved
loop-preserved c =
    step_more captures_left span_in (λ x. expanded x c.args.template.now) c.args.search.now c.loop.search c.step_by_template.new.search c.args.self.now
    c.loop.self c.step_by_template.new.self c.in_ok-step_by_template.field-0 c.loop.invariant c.in_ok-step_by_template.ensures
