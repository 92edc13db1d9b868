use Rattle.std.proofs.Common.{None, Some, get_or, sym, subst, option_map}
use Rattle.bites_spec.specs.Full.{FindsGroupsFull}
use Rattle.bites_filter.specs.Table.{NamedRegex}
use Rattle.bites_filter.proofs.TableLemmas.{none_more, none_matches, put_back}
use Rattle.bites_filter.proofs.text_table.first_full.Goals as goal

pub loop-number-preserved : goal.loop-number-preserved
loop-number-preserved c =
    let l = c.loop-number in let rules = c.args.rules.now in let text = c.args.text.now in let r = c.index-rules-number.result in
    let is = c.index-rules-number.is in
    let put = put_back l.rules rules l.number r c.captures_full.new.self l.invariant.0 c.loop-number-test.true is c.captures_full.ensures.same in (
      put.1,
      none_more rules text l.number r put.0
          (subst (λ (q : NamedRegex). FindsGroupsFull q.regex text None) (sym is)
          (subst (λ o. FindsGroupsFull (get_or l.rules l.number r).regex text (option_map (λ x. x.slots) o)) c.in_default.is c.in_ok-groups.ensures.found))
          l.invariant.1,
    )

pub returns-in-Some-clause-first : goal.returns-in-Some-clause-first
returns-in-Some-clause-first c =
    let l = c.loop-number in let rules = c.args.rules.now in let text = c.args.text.now in let r = c.index-rules-number.result in
    let is = c.index-rules-number.is in
    let put = put_back l.rules rules l.number r c.captures_full.new.self l.invariant.0 c.loop-number-test.true is c.captures_full.ensures.same in
    record {
      rule = r;
      at = put.0;
      groups = subst (λ (q : NamedRegex). FindsGroupsFull q.regex text (Some c.in-Some.groups.slots)) (sym is)
          (subst (λ o. FindsGroupsFull (get_or l.rules l.number r).regex text (option_map (λ x. x.slots) o)) c.in-Some.is c.in_ok-groups.ensures.found);
      first = l.invariant.1;
    }

pub returns-in-Some-clause-same : goal.returns-in-Some-clause-same
returns-in-Some-clause-same c =
    let l = c.loop-number in
    (put_back l.rules c.args.rules.now l.number c.index-rules-number.result c.captures_full.new.self l.invariant.0 c.loop-number-test.true
    c.index-rules-number.is c.captures_full.ensures.same).1

pub returns-in_err-groups-clause-same : goal.returns-in_err-groups-clause-same
returns-in_err-groups-clause-same c =
    let l = c.loop-number in
    (put_back l.rules c.args.rules.now l.number c.index-rules-number.result c.captures_full.new.self l.invariant.0 c.loop-number-test.true
    c.index-rules-number.is c.captures_full.ensures.same).1

pub returns-clause-first : goal.returns-clause-first
returns-clause-first c =
    λ _. none_matches c.args.rules.now c.args.text.now c.loop-number.number c.loop-number-test.false c.loop-number.invariant.1
