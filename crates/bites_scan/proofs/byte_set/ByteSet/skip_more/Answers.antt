use Rattle.std.proofs.Common.{List, Bool, false, not, get_or, ap, ◌∙◌}
use Rattle.bites_scan.specs.Forms.{form_stops}
use Rattle.bites_scan.proofs.MarkLemmas.{same_stops}
use Rattle.bites_scan.proofs.byte_set.ByteSet.skip_more.Goals as goal

pub returns : goal.returns
returns c =
    let set = c.self.inside in
    same_stops (form_stops set.form) (λ byte. not (get_or c.args.self.now byte false)) c.args.haystack.now c.args.from c.first_stop.result
    (λ x h. set.agrees x h ∙ ap (λ (flags : List Bool). not (get_or flags x false)) c.self.view_is) (λ k. (c.type_inv.haystack k).fits) c.first_stop.ensures
