use Rattle.std.proofs.Common.{rules}
use Rattle.bites_bytes.proofs.bytes.set_builder.limited.Goals as goal

pub returns : goal.returns
returns c = search rules
