use Rattle.bites_answers.proofs.Messages as rows
use Rattle.bites_answers.proofs.messages_are_answered.Goals as goal

pub returns : goal.returns
returns c = rows.all
