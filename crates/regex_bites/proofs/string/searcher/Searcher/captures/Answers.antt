use Rattle.regex_bites.proofs.BorderLemmas.{may_start}
use Rattle.regex_bites.proofs.string.searcher.Searcher.captures.Goals as goal

pub captures_at-requires : goal.captures_at-requires
captures_at-requires c = may_start c.args.haystack.now c.utf8.haystack
