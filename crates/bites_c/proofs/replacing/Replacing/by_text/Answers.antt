use Rattle.bites_c.specs.Replacing.{spans_left}
use Rattle.bites_c.proofs.ReplacingLemmas.{step_more}
use Rattle.bites_c.proofs.replacing.Replacing.by_text.Goals as goal

pub loop-preserved : goal.loop-preserved
loop-preserved c =
    step_more spans_left (λ x. x) (λ x. c.args.text.now) c.args.search.now c.loop.search c.step_by_text.new.search c.args.self.now c.loop.self
    c.step_by_text.new.self c.in_ok-step_by_text.field-0 c.loop.invariant c.in_ok-step_by_text.ensures
