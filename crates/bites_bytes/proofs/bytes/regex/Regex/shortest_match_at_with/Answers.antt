use Rattle.bites_bytes.proofs.bytes.regex.Regex.shortest_match_at_with.Goals as goal

pub returns : goal.returns
returns c = c.shortest.ensures
