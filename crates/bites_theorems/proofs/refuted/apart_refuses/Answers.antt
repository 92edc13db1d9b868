use Rattle.bites_theorems.proofs.RefutationLemmas as lemmas
use Rattle.bites_theorems.proofs.refuted.apart_refuses.Goals as goal

pub returns : goal.returns
returns c = lemmas.apart_refuses
