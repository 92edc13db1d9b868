use Rattle.std.proofs.Common.{List, subst}
use Rattle.bites_scan.specs.Literal.{Needle}
use Rattle.bites_scan.specs.LiteralSet.{IsSetOutcome}
use Rattle.bites_literals.proofs.BeginLemmas.{begins_by_set_outcome}
use Rattle.bites_literals.proofs.CandidateLemmas.{lies_of}
use Rattle.bites_literals.proofs.prefilter.begin_by_choice.Goals as goal

pub begin_by-requires : goal.begin_by-requires
begin_by-requires c = lies_of c.deref.result.now c.args.haystack.now c.args.start c.search-outcome.result c.search-outcome.ensures

pub returns-clause-begins : goal.returns-clause-begins
returns-clause-begins c t is =
    begins_by_set_outcome t c.args.choice.now is c.args.haystack.now c.args.start c.requires c.search-outcome.result
    (subst (λ (set : List Needle). IsSetOutcome set c.args.haystack.now c.args.start c.search-outcome.result) c.deref.ensures c.search-outcome.ensures)
    c.begin_by.result c.begin_by.ensures.begins
