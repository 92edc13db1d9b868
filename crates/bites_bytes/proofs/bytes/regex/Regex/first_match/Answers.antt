use Rattle.bites_bytes.proofs.bytes.regex.Regex.first_match.Goals as goal

pub returns : goal.returns
returns c = c.find.ensures.finds
