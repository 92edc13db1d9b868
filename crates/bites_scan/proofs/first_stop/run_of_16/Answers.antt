use Rattle.std.proofs.Common.{refl, ap, ◌∙◌, arith, map}
use lib.Lanes.{mask_l}
use Rattle.bites_scan.proofs.MarkLemmas.{run_whole, run_stopped}
use Rattle.bites_scan.proofs.first_stop.run_of_16.Goals as goal

pub returns-then-mask-eq0 : goal.returns-then-mask-eq0
returns-then-mask-eq0 g c =
    let p = g.S.Stops.stops c.args.set.now in
    run_whole p c.args.haystack.now c.args.at 16 _ 16 c.requires (omega arith)
    (c.mask_of-mask.ensures.bits ∙ ap mask_l (c.lanes.ensures ∙ ap (map p) c.load.ensures)) c.if-mask-eq0.true refl

pub returns-else-mask-eq0 : goal.returns-else-mask-eq0
returns-else-mask-eq0 g c =
    let p = g.S.Stops.stops c.args.set.now in
    run_stopped p c.args.haystack.now c.args.at 16 _ _ c.requires (omega arith)
    (c.mask_of-mask.ensures.bits ∙ ap mask_l (c.lanes.ensures ∙ ap (map p) c.load.ensures)) c.if-mask-eq0.false refl
