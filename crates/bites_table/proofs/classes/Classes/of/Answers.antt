use Rattle.bites_table.proofs.Library.{◌<◌, length, ap, sym, ◌∙◌, subst, arith, get_or_default}
use Rattle.bites_table.proofs.Words.{at, IsInterval, Intervals, AreSound, class_by}
use Rattle.bites_table.proofs.ClassLemmas.{class_is}
use Rattle.bites_table.proofs.classes.Classes.of.Goals as goal

pub returns-in-Some-2-clause-class : goal.returns-in-Some-2-clause-class
returns-in-Some-2-clause-class c =
    let v = c.args.self.now in
    let r = c.interval_of-interval.result in
    let sound : AreSound v = subst (λ u. AreSound u) c.self.view_is c.self.invariant.0 in
    let begins = ap (λ (u : Intervals). u.begins) c.self.view_is in
    let classes = ap (λ (u : Intervals). u.classes) c.self.view_is in
    let is : IsInterval v.begins c.in-Some-2.ch r = subst (λ l. IsInterval l c.in-Some-2.ch r) (c.deref.ensures.value ∙ begins) c.interval_of-interval.ensures in
    let within : r < length c.self.inside.of.items = omega (arith, is.within, sound.classes, ap length classes) in
    c.index.ensures ∙ get_or_default c.self.inside.of.items r c.index.result.now 0 within ∙ ap (λ l. at l r) classes
    ∙ sym (class_is v sound c.in-Some-2.ch r is) ∙ ap (class_by v) (sym c.in-Some-2.is)
