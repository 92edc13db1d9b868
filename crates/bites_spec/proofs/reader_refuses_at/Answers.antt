use Rattle.bites_spec.proofs.Laws as laws
use Rattle.bites_spec.proofs.reader_refuses_at.Goals as goal

pub returns : goal.returns
returns c = laws.reader_refuses_at
