use Rattle.regex_bites.proofs.string.set.RegexSet.is_match_at_with.Goals as goal

pub returns : goal.returns
returns c = rw (← c.self.view_is, ← c.cache.view_is, ← c.as_bytes.ensures.value) c.is_match_at_with.ensures
