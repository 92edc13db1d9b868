use Rattle.std.proofs.Common.{◌≡◌, ◌+◌, List, [], ◌++◌, drop, get_or, sym, ap, ◌∙◌, append-nil}
use Rattle.bites_spec.specs.Range.{Range}
use Rattle.bites_spec.specs.Class.{following}
use Rattle.bites_syntax.proofs.Gaps.{gaps, gap_before, no_gap_before, none_behind, gap_at_end, lists_others, following_below}
use Rattle.bites_syntax.proofs.class.gaps.Goals.{then-low-range+in_ok-push, else-low-range}
use Rattle.bites_syntax.proofs.class.gaps.Goals as goal

pub returns-in-None : goal.returns-in-None
returns-in-None c =
    let ranges : List Range = c.args.ranges.now in
    let step : c.if-low-range.others.items ++ gaps (following (get_or ranges c.ranges-2.range-index (0, 0)).1) (drop (c.ranges-2.range-index + 1) ranges) ≡ gaps 0 ranges = elim c.if-low-range.branch [
      | then-low-range+in_ok-push w ↦ rw (w.others-is, w.in_ok-push.ensures.items)
          (gap_before c.ranges-2.others.items ranges c.ranges-2.range-index c.ranges-2.low w.preceding.result c.ranges-2-test.true w.if-low-range.true w.preceding.ensures.next w.preceding.ensures.scalar c.ranges-2.invariant.so_far)
      | else-low-range w ↦ rw w.others-is
          (no_gap_before c.ranges-2.others.items ranges c.ranges-2.range-index c.ranges-2.low c.ranges-2-test.true w.if-low-range.false c.ranges-2.invariant.so_far)
    ] in
    let none : gaps (following (get_or ranges c.ranges-2.range-index (0, 0)).1) (drop (c.ranges-2.range-index + 1) ranges) ≡ [] =
    none_behind ranges c.ranges-2.range-index c.requires c.ranges-2-test.true c.in-None.ensures in
    lists_others ranges c.if-low-range.others.items c.requires (sym (append-nil c.if-low-range.others.items) ∙ ap (λ x. c.if-low-range.others.items ++ x) (sym none) ∙ step)

pub ranges-2-preserved : goal.ranges-2-preserved
ranges-2-preserved c =
    let ranges : List Range = c.args.ranges.now in
    let step : c.if-low-range.others.items ++ gaps (following (get_or ranges c.ranges-2.range-index (0, 0)).1) (drop (c.ranges-2.range-index + 1) ranges) ≡ gaps 0 ranges = elim c.if-low-range.branch [
      | then-low-range+in_ok-push w ↦ rw (w.others-is, w.in_ok-push.ensures.items)
          (gap_before c.ranges-2.others.items ranges c.ranges-2.range-index c.ranges-2.low w.preceding.result c.ranges-2-test.true w.if-low-range.true w.preceding.ensures.next w.preceding.ensures.scalar c.ranges-2.invariant.so_far)
      | else-low-range w ↦ rw w.others-is
          (no_gap_before c.ranges-2.others.items ranges c.ranges-2.range-index c.ranges-2.low c.ranges-2-test.true w.if-low-range.false c.ranges-2.invariant.so_far)
    ] in
    record { low = rw c.in-Some.ensures.1 (following_below (get_or ranges c.ranges-2.range-index (0, 0)).1 c.in-Some.ensures.0); so_far = rw c.in-Some.ensures.1 step }

pub returns : goal.returns
returns c =
    let ranges : List Range = c.args.ranges.now in
    lists_others ranges c.push-2.new.self.items c.requires (c.in_ok-push-2.ensures.items
    ∙ gap_at_end c.ranges-2.others.items ranges c.ranges-2.range-index c.ranges-2.low c.ranges-2-test.false c.ranges-2.invariant.low c.ranges-2.invariant.so_far)
