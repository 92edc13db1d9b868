use Rattle.std.proofs.Common.{rules}
use Rattle.bites_c.proofs.taken.Search.replace_literal.Goals as goal

pub returns : goal.returns
returns c = search rules
