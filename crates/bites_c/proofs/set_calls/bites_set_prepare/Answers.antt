use Rattle.std.proofs.Common.{rules}
use Rattle.bites_c.proofs.set_calls.bites_set_prepare.Goals as goal

pub returns-in-None : goal.returns-in-None
returns-in-None c = search rules
