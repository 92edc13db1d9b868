use Rattle.std.proofs.Common.{ap, ◌∙◌, arith, map}
use lib.Lanes.{mask_l}
use Rattle.bites_scan.proofs.OffsetLemmas.{bit_below}
use Rattle.bites_scan.proofs.MarkLemmas.{tail_whole, tail_stopped}
use Rattle.bites_scan.proofs.last_stop.tail_of_16.Goals as goal

pub overflow_sub-result-else-mask-eq0 : goal.overflow_sub-result-else-mask-eq0
overflow_sub-result-else-mask-eq0 g c = omega (arith, bit_below 16 c.mask_of-mask.result c.highest.result c.mask_of-mask.ensures.small c.highest.ensures.set)

pub returns-then-mask-eq0 : goal.returns-then-mask-eq0
returns-then-mask-eq0 g c =
    let p = g.S.Stops.stops c.args.set.now in
    tail_whole p c.args.haystack.now c.args.at _ c.requires (c.mask_of-mask.ensures.bits ∙ ap mask_l (c.lanes.ensures ∙ ap (map p) c.load.ensures)) c.if-mask-eq0.true

pub returns-else-mask-eq0 : goal.returns-else-mask-eq0
returns-else-mask-eq0 g c =
    let p = g.S.Stops.stops c.args.set.now in
    let low = bit_below 16 c.mask_of-mask.result c.highest.result c.mask_of-mask.ensures.small c.highest.ensures.set in
    tail_stopped p c.args.haystack.now c.args.at _ c.requires (c.mask_of-mask.ensures.bits ∙ ap mask_l (c.lanes.ensures ∙ ap (map p) c.load.ensures))
    c.highest.result low c.highest.ensures.set c.highest.ensures.above
