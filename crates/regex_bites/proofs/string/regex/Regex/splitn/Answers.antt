use Rattle.std.proofs.Common.{rules}
use Rattle.regex_bites.proofs.string.regex.Regex.splitn.Goals as goal

pub returns : goal.returns
returns c = search rules
