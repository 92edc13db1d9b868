use Rattle.regex_bites.proofs.string.searcher.Searcher.replacen.Goals as goal

pub returns : goal.returns
returns g c = record { found = rw (← c.self.view_is) c.replacen_with.ensures.found; same = c.self.view_is }
