use Rattle.std.proofs.Common.{rules}
use Rattle.regex_bites.proofs.string.regex.RegexDisplay.fmt.Goals as goal

pub returns-clause-writes : goal.returns-clause-writes
returns-clause-writes g c = search rules
