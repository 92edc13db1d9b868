use Rattle.std.proofs.Common.{rules}
use Rattle.regex_bites.proofs.string.replacer.WithReplacer.replace_append.Goals as goal

pub returns-clause-appends : goal.returns-clause-appends
returns-clause-appends g c = search rules
