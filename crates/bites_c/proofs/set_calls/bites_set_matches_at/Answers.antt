use Rattle.std.proofs.Common.{rules}
use Rattle.bites_c.proofs.set_calls.bites_set_matches_at.Goals as goal

pub returns : goal.returns
returns c = search rules
