use Rattle.bites_table.proofs.TransitionLemmas.{is_one}
use Rattle.bites_table.proofs.transition_is_one.Goals as goal

pub returns : goal.returns
returns c = is_one
