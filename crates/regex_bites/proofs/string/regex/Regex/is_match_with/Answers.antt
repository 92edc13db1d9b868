use Rattle.regex_bites.proofs.BorderLemmas.{may_start}
use Rattle.regex_bites.proofs.string.regex.Regex.is_match_with.Goals as goal

pub is_match_at_with-requires : goal.is_match_at_with-requires
is_match_at_with-requires c = record { border = may_start c.args.haystack.now c.utf8.haystack; fits = c.requires }
