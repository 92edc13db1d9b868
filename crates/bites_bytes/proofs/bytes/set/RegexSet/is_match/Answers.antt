use Rattle.bites_bytes.proofs.bytes.set.RegexSet.is_match.Goals as goal

pub returns : goal.returns
returns c = c.is_match_at.ensures
