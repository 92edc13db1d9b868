use Rattle.bites_spec.proofs.Laws as laws
use Rattle.bites_spec.proofs.spans_grow.Goals as goal

pub returns : goal.returns
returns g c = laws.spans_grow _
