use Rattle.bites_answers.proofs.Builds as rows
use Rattle.bites_answers.proofs.builds_are_answered.Goals as goal

pub returns : goal.returns
returns c = rows.all
