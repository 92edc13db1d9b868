use Rattle.bites_table.proofs.Words.{asked}
use Rattle.bites_table.proofs.SearchesLemmas.{asked_same}
use Rattle.bites_table.proofs.search.record.Search.trace_walked.Goals as goal

pub returns-clause-stops : goal.returns-clause-stops
returns-clause-stops g c =
    let back = rw c.in-Some.is at c.resume-is_found.ensures.comes in
    c.in_ok-to.ensures.stops _ back.2

pub returns-clause-lead : goal.returns-clause-lead
returns-clause-lead g c =
    let back = rw c.in-Some.is at c.resume-is_found.ensures.comes in
    let to = c.in_ok-push.ensures (asked c.args.self.now g.before) c.in-Some.at.place c.requires.1.1 tt in
    let same = asked_same c.args.self.now c.resume-is_found.new.self g.before c.resume-is_found.ensures.same in
    let lead = c.in_ok-to.ensures.lead _ back.2 in
    (rw same at lead) to
