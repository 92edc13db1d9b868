use Rattle.std.proofs.Common.{rules}
use Rattle.regex_bites.proofs.string.searcher.Searcher.is_match_at.Goals as goal

pub returns : goal.returns
returns c = record { found = rw (← c.self.view_is) c.is_match_at_with.ensures.found; same = c.self.view_is }

pub is_match_at_with-requires : goal.is_match_at_with-requires
is_match_at_with-requires c = search rules
