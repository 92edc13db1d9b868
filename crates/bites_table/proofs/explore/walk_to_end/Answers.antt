use Rattle.bites_table.proofs.Library.{ap, ◌∙◌}
use Rattle.bites_table.proofs.Words.{starts_after, starts_as}
use Rattle.bites_table.proofs.explore.walk_to_end.Goals as goal

pub returns-clause-starts : goal.returns-clause-starts
returns-clause-starts c = c.after.ensures ∙ ap (λ b. starts_after b (starts_as c.args.row.starts)) c.is_some.ensures
