use Rattle.std.proofs.Common.{[], ◌∙◌, ap, cond, length, sym}
use Rattle.bites_bytes.specs.Matches.{captures_to_come}
use Rattle.bites_bytes.proofs.CountLemmas.{length-captures}
use Rattle.bites_bytes.proofs.bytes.capture_matches.CaptureMatches.count.Goals as goal

pub returns : goal.returns
returns c =
    c.count.ensures.left ∙ sym (length-captures c.args.self.matches)
    ∙ sym (ap (λ b. length (cond b [] (captures_to_come c.args.self.matches.cursor))) c.if-refused.false)

pub returns-then-refused : goal.returns-then-refused
returns-then-refused c = sym (ap (λ b. length (cond b [] (captures_to_come c.args.self.matches.cursor))) c.if-refused.true)
