use Rattle.regex_bites.proofs.BorderLemmas.{may_start}
use Rattle.regex_bites.proofs.string.regex.Regex.captures_read.Goals as goal

pub captures_read_at-requires : goal.captures_read_at-requires
captures_read_at-requires c = record { border = may_start c.args.haystack.now c.utf8.haystack; locations = c.requires }
