use Rattle.std.proofs.Common.{rules}
use Rattle.bites_c.proofs.taken.Search.find_next.Goals as goal

pub returns : goal.returns
returns c = search rules
