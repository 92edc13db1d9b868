use Rattle.std.proofs.Common.{rules}
use Rattle.bites_c.proofs.bites_is_match.Goals as goal

pub returns : goal.returns
returns c = search rules
