use Rattle.bites_spec.proofs.Laws as laws
use Rattle.bites_spec.proofs.full_finds_some.Goals as goal

pub returns : goal.returns
returns c = laws.full_finds_some
