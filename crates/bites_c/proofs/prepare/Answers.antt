use Rattle.std.proofs.Common.{rules}
use Rattle.bites_c.proofs.prepare.Goals as goal

pub returns-in-None : goal.returns-in-None
returns-in-None c = search rules
