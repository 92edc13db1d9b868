use Rattle.regex_bites.proofs.string.capture_matches.CaptureMatches.count.Goals as goal

pub returns : goal.returns
returns c = c.count.ensures
