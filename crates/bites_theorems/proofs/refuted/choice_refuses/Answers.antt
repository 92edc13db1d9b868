use Rattle.bites_theorems.proofs.RefutationLemmas as lemmas
use Rattle.bites_theorems.proofs.refuted.choice_refuses.Goals as goal

pub returns : goal.returns
returns c = lemmas.choice_refuses
