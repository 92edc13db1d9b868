use Rattle.std.proofs.Common.{rules}
use Rattle.regex_bites.proofs.string.set.RegexSet.new.Goals as goal

pub returns-in_err-new : goal.returns-in_err-new
returns-in_err-new c = search rules
