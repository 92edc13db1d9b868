use Rattle.bites_answers.proofs.Replacements as rows
use Rattle.bites_answers.proofs.replacements_are_answered.Goals as goal

pub returns : goal.returns
returns c = rows.all
