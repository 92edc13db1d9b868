use Rattle.bites_theorems.proofs.RefutationLemmas as lemmas
use Rattle.bites_theorems.proofs.refuted.within_refuses.Goals as goal

pub returns : goal.returns
returns c = lemmas.within_refuses
