use Rattle.bites_bytes.proofs.bytes.set.RegexSet.matches_at.Goals as goal

pub returns : goal.returns
returns c = c.matches_at_with.ensures.found
