use Rattle.bites_theorems.proofs.RefutationLemmas as lemmas
use Rattle.bites_theorems.proofs.refuted.ends_refuse.Goals as goal

pub returns : goal.returns
returns c = lemmas.ends_refuse
