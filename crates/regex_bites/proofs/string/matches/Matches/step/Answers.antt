use Rattle.std.proofs.Common.{rules}
use Rattle.regex_bites.proofs.string.matches.Matches.step.Goals as goal

pub returns-clause-steps : goal.returns-clause-steps
returns-clause-steps c = search rules
