use Rattle.bites_literals.proofs.BeginLemmas.{begins_by_end}
use Rattle.bites_literals.proofs.prefilter.End.back.Goals as goal

pub returns-clause-none : goal.returns-clause-none
returns-clause-none c t is = begins_by_end t c.args.self.now is c.args.haystack.now c.args.start c.back.result c.requires c.back.ensures.back
