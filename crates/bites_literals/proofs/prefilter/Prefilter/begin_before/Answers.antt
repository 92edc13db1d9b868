use Rattle.std.proofs.Common.{sym, ◌∙◌, true≢false}
use Rattle.bites_literals.proofs.BeginLemmas.{begins_here, none_ends}
use Rattle.bites_literals.proofs.prefilter.Prefilter.begin_before.Goals as goal

pub returns-then-not-ends : goal.returns-then-not-ends
returns-then-not-ends c t is end =
    none_ends t c.args.end.now end c.args.haystack.now c.args.start (λ e. true≢false (sym (c.ends.ensures.1 e) ∙ c.if-not-ends.true))

pub returns-in_default : goal.returns-in_default
returns-in_default c t is end = begins_here t c.args.haystack.now c.args.start c.requires

pub returns-in_default-2 : goal.returns-in_default-2
returns-in_default-2 c t is end = begins_here t c.args.haystack.now c.args.start c.requires
