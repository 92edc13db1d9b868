use Rattle.bites_machine.proofs.Library.{◌||◌, ◌∙◌, List, ap, add-one, drop-cons, Range, in_ranges, has_bit}
use Rattle.bites_machine.proofs.compile.BitLemmas.{has_bit-more}
use Rattle.bites_machine.proofs.ranges.ascii_of.Goals as goal

pub loop-first-preserved : goal.loop-first-preserved
loop-first-preserved c = λ n lt.
    let ranges = c.args.ranges.now in
    let i = c.loop-first.first-index in
    rw add-one (has_bit-more _ _ _ _ _ _
    (c.loop-first.invariant n lt ∙ ap (λ (rest : List Range). has_bit c.loop-first.bits n || in_ranges rest n) (drop-cons ranges i (0, 0) c.loop-first-test.true))
    (c.ascii_within-bits.ensures n lt))
