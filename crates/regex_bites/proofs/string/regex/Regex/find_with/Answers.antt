use Rattle.regex_bites.proofs.BorderLemmas.{may_start}
use Rattle.regex_bites.proofs.string.regex.Regex.find_with.Goals as goal

pub find_at_with-requires : goal.find_at_with-requires
find_at_with-requires c = record { border = may_start c.args.haystack.now c.utf8.haystack; fits = c.requires }
