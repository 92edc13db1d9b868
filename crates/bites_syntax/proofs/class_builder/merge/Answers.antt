use Rattle.std.proofs.lemmas.Grind.{common_steps}
use Rattle.std.proofs.Common.{arith, None, Some, sym, ◌∙◌, append-nil}
use Rattle.bites_syntax.proofs.RangeLists.{lists_merged_as, merged_at_end}
use Rattle.bites_syntax.proofs.class_builder.merge.Goals as goal

pub returns-in_default : goal.returns-in_default
returns-in_default c = lists_merged_as c.args.ranges.now c.ranges-2.merged.items c.requires.ranges c.requires.sorted
    (sym (append-nil c.ranges-2.merged.items) ∙ merged_at_end c.ranges-2.merged.items c.args.ranges.now c.ranges-2.range-index None c.ranges-2-test.false (rw c.in_default.is at c.ranges-2.invariant))

pub returns : goal.returns
returns c = lists_merged_as c.args.ranges.now c.push-2.new.self.items c.requires.ranges c.requires.sorted (c.in_ok-push.ensures.items
    ∙ merged_at_end c.ranges-2.merged.items c.args.ranges.now c.ranges-2.range-index (Some c.in-Some-last.range) c.ranges-2-test.false (rw c.in-Some-last.is at c.ranges-2.invariant))

pub ranges-2-preserved : goal.ranges-2-preserved
ranges-2-preserved c = grind (arith, common_steps)
