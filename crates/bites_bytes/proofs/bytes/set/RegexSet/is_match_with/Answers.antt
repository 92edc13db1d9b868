use Rattle.bites_bytes.proofs.bytes.set.RegexSet.is_match_with.Goals as goal

pub returns : goal.returns
returns c = c.is_match_at_with.ensures
