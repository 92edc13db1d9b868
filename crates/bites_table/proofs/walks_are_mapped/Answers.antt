use Rattle.bites_table.proofs.WalkLemmas.{walks_on}
use Rattle.bites_table.proofs.walks_are_mapped.Goals as goal

pub returns : goal.returns
returns g c p a b f is = walks_on p a b f is
