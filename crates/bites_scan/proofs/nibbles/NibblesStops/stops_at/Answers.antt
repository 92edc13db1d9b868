use Rattle.std.proofs.Common.{◌/◌, get_or, bit_and, ap, sym, ◌∙◌, arith}
use Rattle.bites_scan.specs.Halves.{bits}
use Rattle.bites_scan.specs.Lanes.{is_marked}
use Rattle.bites_scan.proofs.HalfLemmas.{looked_up_low, looked_up_high}
use Rattle.bites_scan.proofs.nibbles.NibblesStops.stops_at.Goals as goal
use Rattle.bites_scan.proofs.nibbles.NibblesStops.stops_at.Goals.{then-byte-lt128, else-byte-lt128}

pub returns : goal.returns
returns c =
    let x = c.args.byte in
    let s = c.args.self.now in
    elim c.if-byte-lt128.branch [
      | then-byte-lt128 w ↦ ap (λ column. is_marked (bit_and column (get_or bits (x / 16) 0))) w.column-is
          ∙ ap is_marked (sym (looked_up_low s.low s.high (omega arith) (omega arith) x (omega arith)))
      | else-byte-lt128 w ↦ ap (λ column. is_marked (bit_and column (get_or bits (x / 16) 0))) w.column-is
          ∙ ap is_marked (sym (looked_up_high s.low s.high (omega arith) (omega arith) x c.ranges.byte.fits (omega arith)))
    ]
