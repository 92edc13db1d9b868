use Rattle.bites_answers.proofs.Trees as rows
use Rattle.bites_answers.proofs.trees_are_answered.Goals as goal

pub returns : goal.returns
returns c = rows.all
