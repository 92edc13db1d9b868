use Rattle.regex_bites.proofs.BorderLemmas.{may_start}
use Rattle.regex_bites.proofs.string.regex.Regex.shortest_match_with.Goals as goal

pub shortest_match_at_with-requires : goal.shortest_match_at_with-requires
shortest_match_at_with-requires c = record { border = may_start c.args.haystack.now c.utf8.haystack; fits = c.requires }
