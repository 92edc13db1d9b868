use Rattle.std.proofs.Common.{◌||◌, ap, ◌∙◌}
use Rattle.bites_spec.specs.Range.{in_ranges}
use Rattle.bites_spec.proofs.classes.ClassLemmas.{in_ranges-push}
use Rattle.bites_syntax.proofs.CaseLemmas.{in_upper_case}
use Rattle.bites_syntax.proofs.class_builder.ClassBuilder.push_upper_case.Goals as goal

pub returns-in_ok-push : goal.returns-in_ok-push
returns-in_ok-push c = λ d. rw c.in_ok-push.ensures.pushed
    (in_ranges-push c.args.self.now (c.to_ascii_uppercase.result, c.to_ascii_uppercase-then-low-high.result) d
    ∙ ap (λ b. in_ranges c.args.self.now d || b) (in_upper_case c.args.start c.args.end c.max-low.result c.min-high.result c.to_ascii_uppercase.result c.to_ascii_uppercase-then-low-high.result
    c.max-low.ensures c.min-high.ensures c.if-low-high.true c.to_ascii_uppercase.ensures.cases c.to_ascii_uppercase-then-low-high.ensures.cases d))
