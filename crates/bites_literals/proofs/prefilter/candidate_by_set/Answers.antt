use Rattle.std.proofs.Common.{sym, subst}
use Rattle.bites_literals.specs.Begins.{IsCandidate}
use Rattle.bites_literals.proofs.CandidateLemmas.{candidate_of}
use Rattle.bites_literals.proofs.prefilter.candidate_by_set.Goals as goal

pub returns : goal.returns
returns c t is =
    subst (IsCandidate t c.args.haystack.now c.args.start) (sym c.offset.ensures)
    (candidate_of t c.args.set.now is c.args.haystack.now c.args.start c.search.result c.search.ensures)
