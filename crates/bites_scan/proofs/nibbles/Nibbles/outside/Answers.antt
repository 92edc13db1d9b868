use Rattle.std.proofs.Common.{arith, get_or, not, false}
use Rattle.bites_scan.proofs.HalfLemmas.{agreed}
use Rattle.bites_scan.proofs.nibbles.Nibbles.outside.Goals as goal

pub returns : goal.returns
returns c =
    let made = c.loop-half.invariant in
    agreed (λ byte. not (get_or c.args.flags.now byte false)) c.loop-half.low c.loop-half.high made.low_len made.high_len (λ h lt. made.lows h (omega arith)) (λ h lt. made.highs h (omega arith))
