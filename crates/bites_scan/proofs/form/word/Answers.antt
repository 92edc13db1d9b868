use Rattle.std.proofs.Common.{ℕ, ◌<◌, ◌≡◌, eqb, true, get_or, map, refl, ap, ◌∙◌, eqb-true}
use Rattle.std.proofs.lemmas.Bool.{agree_below_at}
use Rattle.bites_scan.specs.declared.form.TheConstants.{BYTES}
use Rattle.bites_scan.proofs.MarkLemmas.{word_bits}
use Rattle.bites_scan.proofs.form.word.Goals as goal

itself : (x : ℕ) → x < 256 → get_or BYTES x 0 ≡ x
itself x h = eqb-true _ _ (agree_below_at (λ x. eqb (get_or BYTES x 0) x) (λ _. true) 256 x refl h)

pub returns : goal.returns
returns g c =
    let p = g.S.Stops.stops c.args.set.now in
    word_bits p BYTES refl itself c.args.first _ _ _ _ _ c.requires c.mask_of_four.ensures
    (c.lanes.ensures ∙ ap (map p) c.load.ensures) (c.lanes-2.ensures ∙ ap (map p) c.load-2.ensures) (c.lanes-3.ensures ∙ ap (map p) c.load-3.ensures) (c.lanes-4.ensures ∙ ap (map p) c.load-4.ensures)
