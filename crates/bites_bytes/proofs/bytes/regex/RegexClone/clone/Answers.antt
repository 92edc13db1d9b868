use Rattle.std.proofs.Common.{rules}
use Rattle.bites_bytes.proofs.bytes.regex.RegexClone.clone.Goals as goal

pub returns : goal.returns
returns c = search rules
