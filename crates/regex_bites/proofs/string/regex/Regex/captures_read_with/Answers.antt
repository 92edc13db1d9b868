use Rattle.regex_bites.proofs.BorderLemmas.{may_start}
use Rattle.regex_bites.proofs.string.regex.Regex.captures_read_with.Goals as goal

pub captures_read_at_with-requires : goal.captures_read_at_with-requires
captures_read_at_with-requires c = record { border = may_start c.args.haystack.now c.utf8.haystack; fit = c.requires }
