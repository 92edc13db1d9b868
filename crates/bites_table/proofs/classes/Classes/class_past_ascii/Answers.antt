use Rattle.bites_table.proofs.Library.{◌<◌, length, ap, sym, ◌∙◌, subst, arith, get_or_default}
use Rattle.bites_table.proofs.Words.{at, IsInterval, Intervals, AreSound}
use Rattle.bites_table.specs.Classes.{IsPast}
use Rattle.bites_table.proofs.ClassLemmas.{class_is}
use Rattle.bites_table.proofs.classes.Classes.class_past_ascii.Goals as goal

pub returns-clause-class : goal.returns-clause-class
returns-clause-class c ch high =
    let v = c.args.self.now in
    let past = c.self.inside.past in
    let sound : AreSound v = subst (λ u. AreSound u) c.self.view_is c.self.invariant.0 in
    let up_to : IsPast v past = subst (λ u. IsPast u past) c.self.view_is c.self.invariant.2 in
    let begins = ap (λ (u : Intervals). length u.begins) c.self.view_is in
    let classes = ap (λ (u : Intervals). u.classes) c.self.view_is in
    let is : IsInterval v.begins ch past = record { within = up_to.within; begins_below = omega (arith, up_to.up_to, high); next_above = λ k more lt. absurd (omega (arith, begins, c.len.ensures, c.if-self-len.false, more, lt)) } in
    let within : past < length c.self.inside.of.items = omega (arith, is.within, sound.classes, ap length classes) in
    c.index.ensures ∙ get_or_default c.self.inside.of.items past c.index.result.now 0 within ∙ ap (λ l. at l past) classes ∙ sym (class_is v sound ch past is)
