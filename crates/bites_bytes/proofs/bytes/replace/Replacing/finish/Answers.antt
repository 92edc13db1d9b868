use Rattle.std.proofs.Common.{rules}
use Rattle.bites_bytes.proofs.bytes.replace.Replacing.finish.Goals as goal

pub returns-clause-borrowed : goal.returns-clause-borrowed
returns-clause-borrowed c = search rules
