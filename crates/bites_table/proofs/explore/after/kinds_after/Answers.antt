use Rattle.bites_table.proofs.Library.{◌∷◌, [], length, sym, ap, ◌∙◌, subst, arith, length-append}
use Rattle.bites_table.proofs.Words.{kind_of, holds_by, AssertsAs, kind_as, classes_of, AreAfter}
use Rattle.bites_table.proofs.ExploreLemmas.{asserts-as, each-more}
use Rattle.bites_table.proofs.explore.after.kinds_after.Goals as goal

pub loop-class-preserved : goal.loop-class-preserved
loop-class-preserved c =
    let len = ap length c.in_ok-push.ensures.items ∙ length-append c.loop-class.after.items (c.first_after-kind.result ∷ []) in
    let before = c.loop-class.invariant.len in
    record {
      after = λ p tells.
          subst (AreAfter p (classes_of c.args.classes.now)) (sym c.in_ok-push.ensures.items)
          (λ b. each-more (λ kind n. AssertsAs p b (kind_as kind) ((classes_of c.args.classes.now).member n)) c.loop-class.after.items c.loop-class.class c.first_after-kind.result
          (c.loop-class.invariant.after p tells b) c.loop-class.invariant.len
          (asserts-as p b _ ((classes_of c.args.classes.now).member c.loop-class.class)
          (λ q t look e k. c.first_after-kind.ensures p tells q t look e k ∙ ap (λ a. holds_by look k a) (c.of.ensures ∙ ap kind_of c.member.ensures))));
      len = omega arith;
    }
