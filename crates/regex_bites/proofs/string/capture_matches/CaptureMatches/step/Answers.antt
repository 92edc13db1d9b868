use Rattle.std.proofs.Common.{rules}
use Rattle.regex_bites.proofs.string.capture_matches.CaptureMatches.step.Goals as goal

pub returns-in-Some-Err-clause-steps : goal.returns-in-Some-Err-clause-steps
returns-in-Some-Err-clause-steps c = search rules
