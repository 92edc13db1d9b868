use Rattle.bites_table.proofs.LeadLemmas.{leads_is}
use Rattle.bites_table.proofs.states_lead_by_kind.Goals as goal

pub returns : goal.returns
returns c = leads_is
