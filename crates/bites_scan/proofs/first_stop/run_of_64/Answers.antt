use Rattle.std.proofs.Common.{refl, ap, sym, ◌∙◌, arith, map}
use lib.Lanes.{mask_l}
use Rattle.bites_scan.proofs.MarkLemmas.{run_whole, run_of_64, four_tests, mask_of_none}
use Rattle.bites_scan.proofs.first_stop.run_of_64.Goals as goal

pub returns-then-mask_of-eq0 : goal.returns-then-mask_of-eq0
returns-then-mask_of-eq0 g c =
    let p = g.S.Stops.stops c.args.set.now in
    let all = c.either-3.ensures (sym c.mask_of.ensures.bits ∙ c.if-mask_of-eq0.true) in
    let ab = c.either.ensures all.0 in
    let cd = c.either-2.ensures all.1 in
    let tests = four_tests p c.args.haystack.now c.args.at _ _ _ _ (c.lanes-a.ensures ∙ ap (map p) c.load.ensures) (c.lanes-b.ensures ∙ ap (map p) c.load-2.ensures) (c.lanes-c.ensures ∙ ap (map p) c.load-3.ensures) (c.lanes-d.ensures ∙ ap (map p) c.load-4.ensures) in
    run_whole p c.args.haystack.now c.args.at 64 0 64 c.requires (omega arith) (sym (mask_of_none _ _ _ _ ab.0 ab.1 cd.0 cd.1) ∙ ap mask_l tests) refl refl

pub returns : goal.returns
returns g c =
    let p = g.S.Stops.stops c.args.set.now in
    let tests = four_tests p c.args.haystack.now c.args.at _ _ _ _ (c.lanes-a.ensures ∙ ap (map p) c.load.ensures) (c.lanes-b.ensures ∙ ap (map p) c.load-2.ensures) (c.lanes-c.ensures ∙ ap (map p) c.load-3.ensures) (c.lanes-d.ensures ∙ ap (map p) c.load-4.ensures) in
    run_of_64 p c.args.haystack.now c.args.at _ _ c.requires (c.mask_of_four.ensures ∙ ap mask_l tests) refl
