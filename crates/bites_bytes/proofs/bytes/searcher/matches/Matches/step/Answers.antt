use Rattle.std.proofs.Common.{rules}
use Rattle.bites_bytes.proofs.bytes.searcher.matches.Matches.step.Goals as goal

pub returns-in_err-found : goal.returns-in_err-found
returns-in_err-found c = search rules
