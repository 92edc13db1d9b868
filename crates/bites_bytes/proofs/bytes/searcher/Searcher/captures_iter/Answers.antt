use Rattle.std.proofs.Common.{refl, rules}
use Rattle.bites_bytes.proofs.SearcherLemmas.{borrows}
use Rattle.bites_bytes.proofs.bytes.searcher.Searcher.captures_iter.Goals as goal

pub returns : goal.returns
returns c = borrows _ _ _ _ _ _ _ (search rules) (search rules) refl
