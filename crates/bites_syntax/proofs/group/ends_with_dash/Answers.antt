use Rattle.bites_syntax.proofs.GroupLemmas.{dash_last}
use Rattle.bites_syntax.proofs.group.ends_with_dash.Goals as goal

pub returns-in-Some : goal.returns-in-Some
returns-in-Some c = dash_last c.args.run.now c.in-Some.c.now c.in-Some.ensures.value
