use Rattle.bites_spec.proofs.Laws as laws
use Rattle.bites_spec.proofs.ranges_are_listed.Goals as goal

pub returns : goal.returns
returns c = laws.ranges_are_listed
