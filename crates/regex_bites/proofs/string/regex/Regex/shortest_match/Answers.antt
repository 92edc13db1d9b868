use Rattle.regex_bites.proofs.BorderLemmas.{may_start}
use Rattle.regex_bites.proofs.string.regex.Regex.shortest_match.Goals as goal

pub shortest_match_at-requires : goal.shortest_match_at-requires
shortest_match_at-requires c = may_start c.args.haystack.now c.utf8.haystack
