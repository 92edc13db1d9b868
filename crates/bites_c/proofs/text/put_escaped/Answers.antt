use Rattle.std.proofs.Common.{rules}
use Rattle.bites_c.proofs.text.put_escaped.Goals as goal

pub returns-in-Ok-escape : goal.returns-in-Ok-escape
returns-in-Ok-escape c = search rules
