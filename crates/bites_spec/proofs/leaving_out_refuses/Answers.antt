use Rattle.bites_spec.proofs.Laws as laws
use Rattle.bites_spec.proofs.leaving_out_refuses.Goals as goal

pub returns : goal.returns
returns c = laws.leaving_out_refuses
