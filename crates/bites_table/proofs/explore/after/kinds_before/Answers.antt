use Rattle.bites_table.proofs.Library.{◌∷◌, [], length, sym, ap, ◌∙◌, subst, arith, length-append}
use Rattle.bites_table.proofs.Words.{kind_of, AreAlikeKinds, kind_as, classes_of, AreBefore}
use Rattle.bites_table.proofs.ExploreLemmas.{each-more}
use Rattle.bites_table.proofs.explore.after.kinds_before.Goals as goal

pub loop-class-preserved : goal.loop-class-preserved
loop-class-preserved c =
    let len = ap length c.in_ok-push.ensures.items ∙ length-append c.loop-class.before.items (c.first_before-kind.result ∷ []) in
    let before = c.loop-class.invariant.len in
    record {
      before = λ p tells.
          subst (AreBefore p (classes_of c.args.classes.now)) (sym c.in_ok-push.ensures.items)
          (each-more (λ kind n. AreAlikeKinds p (kind_as kind) (kind_of ((classes_of c.args.classes.now).member n))) c.loop-class.before.items c.loop-class.class c.first_before-kind.result
          (c.loop-class.invariant.before p tells) c.loop-class.invariant.len
          (subst (AreAlikeKinds p (kind_as c.first_before-kind.result)) (c.of.ensures ∙ ap kind_of c.member.ensures) (c.first_before-kind.ensures p tells)));
      len = omega arith;
    }
