use Rattle.std.proofs.Common.{rules}
use Rattle.regex_bites.proofs.string.regex.Regex.captures_read_at.Goals as goal

pub captures_read_at_with-requires : goal.captures_read_at_with-requires
captures_read_at_with-requires c = search rules
