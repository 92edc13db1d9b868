use Rattle.std.proofs.Common.{rules}
use Rattle.regex_bites.proofs.string.set.RegexSet.matches_with.Goals as goal

pub returns : goal.returns
returns c = search rules
