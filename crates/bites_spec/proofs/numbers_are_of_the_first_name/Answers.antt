use Rattle.bites_spec.proofs.Laws as laws
use Rattle.bites_spec.proofs.numbers_are_of_the_first_name.Goals as goal

pub returns : goal.returns
returns c = laws.numbers_are_of_the_first_name
