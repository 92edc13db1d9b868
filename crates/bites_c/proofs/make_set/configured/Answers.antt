use Rattle.std.proofs.Common.{rules}
use Rattle.bites_c.proofs.make_set.configured.Goals as goal

pub returns-clause-made : goal.returns-clause-made
returns-clause-made c = search rules
