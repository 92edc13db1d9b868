use Rattle.bites_table.proofs.SearchesLemmas.{stops_so}
use Rattle.bites_table.proofs.search.record.Search.leave.Goals as goal

pub returns-in-Some-clause-stops : goal.returns-in-Some-clause-stops
returns-in-Some-clause-stops g c =
    let back = rw c.in-Some.is at c.resume-is_found.ensures.comes in
    stops_so _ _ _ _ c.settle.ensures.stands c.settle.ensures.over _ back.2
