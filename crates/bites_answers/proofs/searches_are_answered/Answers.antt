use Rattle.bites_answers.proofs.Searches as rows
use Rattle.bites_answers.proofs.searches_are_answered.Goals as goal

pub returns : goal.returns
returns c = rows.all
