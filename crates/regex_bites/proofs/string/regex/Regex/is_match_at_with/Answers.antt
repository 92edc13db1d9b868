use Rattle.std.proofs.Common.{rules}
use Rattle.regex_bites.proofs.string.regex.Regex.is_match_at_with.Goals as goal

pub returns : goal.returns
returns c = search rules
