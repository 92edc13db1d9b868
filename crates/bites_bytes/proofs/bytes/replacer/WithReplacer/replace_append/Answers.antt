use Rattle.std.proofs.Common.{rules}
use Rattle.bites_bytes.proofs.bytes.replacer.WithReplacer.replace_append.Goals as goal

pub returns-clause-appends : goal.returns-clause-appends
returns-clause-appends g c = search rules
