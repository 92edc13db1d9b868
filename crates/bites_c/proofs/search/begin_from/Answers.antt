use Rattle.std.proofs.Common.{rules}
use Rattle.bites_c.proofs.search.begin_from.Goals as goal

pub returns-in-None : goal.returns-in-None
returns-in-None c = search rules
