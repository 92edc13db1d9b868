use Rattle.bites_bytes.proofs.bytes.regex.Regex.captures_read_at_with.Goals as goal

pub returns : goal.returns
returns c = c.find.ensures.reads
