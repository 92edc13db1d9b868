use Rattle.bites_theorems.proofs.RefutationLemmas as lemmas
use Rattle.bites_theorems.proofs.refuted.parses_refuse.Goals as goal

pub returns : goal.returns
returns c = lemmas.parses_refuse
