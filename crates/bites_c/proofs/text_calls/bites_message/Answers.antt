use Rattle.std.proofs.Common.{rules}
use Rattle.bites_c.proofs.text_calls.bites_message.Goals as goal

pub returns-clause-error : goal.returns-clause-error
returns-clause-error c = search rules
