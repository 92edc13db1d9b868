use Rattle.bites_spec.proofs.Laws as laws
use Rattle.bites_spec.proofs.captures_have_spans.Goals as goal

pub returns : goal.returns
returns c = laws.captures_have_spans
