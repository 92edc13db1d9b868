use Rattle.bites_answers.proofs.Iterations as rows
use Rattle.bites_answers.proofs.iterations_are_answered.Goals as goal

pub returns : goal.returns
returns c = rows.all
