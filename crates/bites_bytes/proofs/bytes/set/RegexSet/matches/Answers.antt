use Rattle.bites_bytes.proofs.bytes.set.RegexSet.matches.Goals as goal

pub returns : goal.returns
returns c = c.matches_at.ensures
