use denote.Enum.Bare.{sameb}
use Rattle.bites_table.proofs.Library.{◌∙◌, inr, sym}
use Rattle.bites_table.specs.contracts.kind.Kind.{the_type}
use Rattle.bites_table.proofs.KindLemmas.{same_kind}
use Rattle.bites_table.proofs.RestLemmas.{among-any}
use Rattle.bites_table.proofs.explore.stays.has_kind.Goals as goal

pub returns-else-eq : goal.returns-else-eq
returns-else-eq c e = inr (among-any (sameb the_type) same_kind c.args.others.now c.args.kind (sym c.contains.ensures.value ∙ e))
