use Rattle.regex_bites.proofs.BorderLemmas.{may_start}
use Rattle.regex_bites.proofs.string.regex.Regex.captures_with.Goals as goal

pub captures_at_with-requires : goal.captures_at_with-requires
captures_at_with-requires c = record { border = may_start c.args.haystack.now c.utf8.haystack; fits = c.requires }
