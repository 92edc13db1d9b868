use Rattle.bites_theorems.proofs.RefutationLemmas as lemmas
use Rattle.bites_theorems.proofs.refuted.no_later_refuses.Goals as goal

pub returns : goal.returns
returns c = lemmas.no_later_refuses
