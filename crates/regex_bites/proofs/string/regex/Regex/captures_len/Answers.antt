use Rattle.std.proofs.Common.{rules}
use Rattle.regex_bites.proofs.string.regex.Regex.captures_len.Goals as goal

pub returns : goal.returns
returns c = search rules
