use Rattle.bites_bytes.proofs.bytes.searcher.Searcher.is_match.Goals as goal

pub returns : goal.returns
returns c = record { found = rw (← c.self.view_is) c.is_match_with.ensures.found; same = c.self.view_is }
