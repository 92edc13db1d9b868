use Rattle.regex_bites.proofs.BorderLemmas.{may_start}
use Rattle.regex_bites.proofs.string.regex.Regex.is_match.Goals as goal

pub is_match_at-requires : goal.is_match_at-requires
is_match_at-requires c = may_start c.args.haystack.now c.utf8.haystack
