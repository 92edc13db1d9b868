use Rattle.bites_machine.proofs.Library.{common_steps, Some, None, sym, ap, ◌∙◌, eqb-true, rules, string_bytes, arith, option_and_then, append-nil}
use Rattle.bites_machine.proofs.templates.InterpolateTexts.{kept_through, appended_all, cuts_as, text_put, group_put, text_at_end}
use Rattle.bites_machine.proofs.interpolate.string.Goals as goal

pub loop-rest-preserved-in_ok-push_str-in-Text : goal.loop-rest-preserved-in_ok-push_str-in-Text
loop-rest-preserved-in_ok-push_str-in-Text g c = grind (arith, common_steps, kept_through, text_put, cuts_as)

pub loop-rest-preserved-in_ok-push_str-in-Name : goal.loop-rest-preserved-in_ok-push_str-in-Name
loop-rest-preserved-in_ok-push_str-in-Name g c = record {
  kept = kept_through _ _ _ c.loop-rest.invariant.kept (c.in-Some-text_of.text.now, c.in_ok-push_str-in-Name.ensures.bytes);
  closes = c.next_part.result.1.closes;
  appended = λ texts numbers ht hn. group_put _ _ _ _ _ _ (cuts_as c.in-Name.is c.next_part.ensures.cuts)
      (ht c.in-Some.number (Some c.in-Some-text_of.text) (search rules) c.in-Some-text_of.ensures ∙ ap (option_and_then texts) (c.in-Some.ensures texts numbers hn))
      (c.loop-rest.invariant.appended texts numbers ht hn) c.in_ok-push_str-in-Name.ensures.bytes;
}

pub loop-rest-preserved-in_default-text_of : goal.loop-rest-preserved-in_default-text_of
loop-rest-preserved-in_default-text_of g c = record {
  kept = c.loop-rest.invariant.kept;
  closes = c.next_part.result.1.closes;
  appended = λ texts numbers ht hn. group_put _ _ _ _ _ _ (cuts_as c.in-Name.is c.next_part.ensures.cuts)
      (ht c.in-Some.number None (search rules) c.in_default-text_of.ensures ∙ ap (option_and_then texts) (c.in-Some.ensures texts numbers hn))
      (c.loop-rest.invariant.appended texts numbers ht hn) (sym (append-nil (string_bytes c.loop-rest.dst)));
}

pub loop-rest-preserved : goal.loop-rest-preserved
loop-rest-preserved g c = record {
  kept = c.loop-rest.invariant.kept;
  closes = c.next_part.result.1.closes;
  appended = λ texts numbers ht hn. group_put _ _ _ _ _ _ (cuts_as c.in-Name.is c.next_part.ensures.cuts)
      (ap (option_and_then texts) (c.in_default.ensures texts numbers hn)) (c.loop-rest.invariant.appended texts numbers ht hn) (sym (append-nil (string_bytes c.loop-rest.dst)));
}

pub returns-clause-expanded : goal.returns-clause-expanded
returns-clause-expanded g c = grind (arith, common_steps, appended_all, text_at_end, eqb-true)
