use Rattle.bites_answers.proofs.Captures as rows
use Rattle.bites_answers.proofs.captures_are_answered.Goals as goal

pub returns : goal.returns
returns c = rows.all
