use Rattle.std.proofs.Common.{rules}
use Rattle.bites_bytes.proofs.bytes.regex.Regex.find_candidate_at.Goals as goal

pub returns-in-Some : goal.returns-in-Some
returns-in-Some c = search rules
