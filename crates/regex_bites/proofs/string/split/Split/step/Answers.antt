use Rattle.std.proofs.Common.{rules}
use Rattle.regex_bites.proofs.string.split.Split.step.Goals as goal

pub returns-in-Some : goal.returns-in-Some
returns-in-Some c = search rules
