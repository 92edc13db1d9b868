use Rattle.std.proofs.Common.{rules}
use Rattle.bites_bytes.proofs.SearcherLemmas.{borrows}
use Rattle.regex_bites.proofs.string.searcher.Searcher.find_iter.Goals as goal

pub returns : goal.returns
returns c = borrows _ _ _ _ _ _ _ (search rules) (search rules) c.new.ensures.searcher
