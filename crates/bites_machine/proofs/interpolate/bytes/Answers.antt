use Rattle.bites_machine.proofs.Library.{expansion_end, common_steps, arith}
use Rattle.bites_machine.proofs.templates.InterpolateTexts.{kept_through, appended_more, appended_all, refused_more, byte_text, front_put, front_begun}
use Rattle.bites_machine.proofs.interpolate.bytes.Goals as goal

pub returns-in_err-bytes_of_text-clause-expanded : goal.returns-in_err-bytes_of_text-clause-expanded
returns-in_err-bytes_of_text-clause-expanded g c = grind (arith, common_steps, front_begun)

pub returns-in_default-clause-expanded : goal.returns-in_default-clause-expanded
returns-in_default-clause-expanded g c = λ texts numbers ht hn. appended_all
    (front_put _ _ _ _ _ c.text_front.ensures (c.fronts.invariant.appended texts numbers ht hn) (c.in_ok-bytes_of_text.ensures.expanded texts numbers ht hn))
    (grind (arith, common_steps, expansion_end))

pub returns-in_err-push-clause-expanded : goal.returns-in_err-push-clause-expanded
returns-in_err-push-clause-expanded g c = λ texts numbers ht hn. refused_more _ c.from_residual-in_err-push.ensures.0
    (front_put _ _ _ _ _ c.text_front.ensures (c.fronts.invariant.appended texts numbers ht hn) (c.in_ok-bytes_of_text.ensures.expanded texts numbers ht hn))
    c.in_err-push.ensures.items

pub fronts-preserved : goal.fronts-preserved
fronts-preserved g c = record {
  kept = kept_through _ _ _ (kept_through _ _ _ c.fronts.invariant.kept c.in_ok-bytes_of_text.ensures.kept) (_, c.in_ok-push.ensures.items);
  appended = λ texts numbers ht hn. appended_more _ (front_put _ _ _ _ _ c.text_front.ensures (c.fronts.invariant.appended texts numbers ht hn)
      (c.in_ok-bytes_of_text.ensures.expanded texts numbers ht hn)) (byte_text _ _ _ _ _ _ _ c.text_front.ensures c.in-Some.ensures.cases.0)
      c.in_ok-push.ensures.items;
}
