use Rattle.std.proofs.Common.{◌/◌, ◌<◌, ◌≤◌, length, sym, subst}
use Rattle.std.specs.Io.KnownBytes.{Appends}
use Rattle.bites_filter.specs.Tabs.{tabbed, tabbed_groups}
use Rattle.bites_filter.proofs.Written.{appends_both}
use Rattle.bites_filter.proofs.TabLemmas.{group_more, no_group_more}
use Rattle.bites_filter.proofs.tabs.write_groups.Goals as goal

pub loop-group-preserved : goal.loop-group-preserved
loop-group-preserved g c =
    let l = c.loop-group in let contents = g.W.Write.contents in let text = c.args.groups.now.haystack in let slots = c.args.groups.now.slots in (
      _,
      appends_both (contents c.args.out.now) (contents l.out) (contents c.write_group.new.out) l.invariant.0 _ l.invariant.1
          (subst (λ o. Appends (contents l.out) (contents c.write_group.new.out) (tabbed o)) c.get.ensures c.in_ok-write_group.ensures),
      group_more text slots l.group (length slots / 2) (subst (λ n. l.group < n) c.len-group-end.ensures.slots c.loop-group-test.true)
          (tabbed_groups text slots) l.invariant.0 l.invariant.2,
    )

pub returns : goal.returns
returns g c =
    let l = c.loop-group in let text = c.args.groups.now.haystack in let slots = c.args.groups.now.slots in
    let all = no_group_more text slots l.group (length slots / 2) (subst (λ n. n ≤ l.group) c.len-group-end.ensures.slots c.loop-group-test.false)
    (tabbed_groups text slots) l.invariant.0 l.invariant.2 in
    subst (Appends (g.W.Write.contents c.args.out.now) (g.W.Write.contents l.out)) (sym all) l.invariant.1
