use Rattle.bites_answers.proofs.LeastLemmas as least
use Rattle.bites_answers.proofs.least_parse_end_is_least.Goals as goal

pub returns : goal.returns
returns c = least.least_parse_end_is_least
