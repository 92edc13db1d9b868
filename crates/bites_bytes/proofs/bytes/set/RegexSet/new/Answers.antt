use Rattle.std.proofs.Common.{rules}
use Rattle.bites_bytes.proofs.bytes.set.RegexSet.new.Goals as goal

pub returns : goal.returns
returns c = search rules
