use Rattle.std.proofs.Common.{rules}
use Rattle.regex_bites.proofs.string.searcher.Searcher.is_match.Goals as goal

pub returns : goal.returns
returns c = search rules
