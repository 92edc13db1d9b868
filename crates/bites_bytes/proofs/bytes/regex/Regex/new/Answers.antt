use Rattle.bites_bytes.proofs.bytes.regex.Regex.new.Goals as goal

pub returns : goal.returns
returns c = rw (← c.in_ok-new.ensures) c.into_regex.ensures
