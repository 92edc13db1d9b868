use Rattle.bites_literals.proofs.BeginLemmas.{begins_by_outcome}
use Rattle.bites_literals.proofs.CandidateLemmas.{lies_near}
use Rattle.bites_literals.proofs.prefilter.Near.begin_by_byte.Goals as goal

pub begin_by-requires : goal.begin_by-requires
begin_by-requires c = lies_near c.args.self.now.literal c.args.haystack.now c.args.start c.search_byte-outcome.result c.search_byte-outcome.ensures.outcome

pub returns-clause-begins : goal.returns-clause-begins
returns-clause-begins c t is =
    begins_by_outcome t c.args.self.now is c.args.haystack.now c.args.start c.requires.within c.search_byte-outcome.result c.search_byte-outcome.ensures.outcome c.begin_by.result c.begin_by.ensures.begins
