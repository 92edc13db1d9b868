use Rattle.std.proofs.Common.{[], ap, arith, cond, length, refl}
use Rattle.bites_bytes.specs.Matches.{captures_to_come}
use Rattle.bites_bytes.proofs.bytes.capture_matches.CaptureMatches.step.Goals as goal

pub returns-in-Err : goal.returns-in-Err
returns-in-Err c =
    let left = ap (λ b. length (cond b [] (captures_to_come c.args.self.now.matches.cursor))) c.if-self.false in
    let some = ap length c.if-not-advance.ensures.steps.0 in (omega (arith, left, some), refl)
