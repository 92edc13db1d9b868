use Rattle.regex_bites.proofs.string.set.RegexSet.prepared.Goals as goal

pub returns : goal.returns
returns c = rw (← c.self.view_is) c.in_ok-prepared.ensures
