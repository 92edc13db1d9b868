use Rattle.std.proofs.Common.{true}
use Rattle.bites_spec.specs.Match.{MatchesOne}
use Rattle.bites_spec.specs.Tree.{no_tree}
use Rattle.bites_literals.proofs.FactLemmas.{facts_of_none}
use Rattle.bites_literals.proofs.facts.Facts.none.Goals as goal

pub returns : goal.returns
returns c = facts_of_none (λ hay i j. MatchesOne hay no_tree i j) (λ hay i j m. m) 0 true c.none.result _ c.without_text.ensures
