use Rattle.bites_table.proofs.Library.{◌≡◌, ◌++◌, ◌∷◌, [], rules, arith, slice_index_or}
use Rattle.bites_table.specs.Bounds.{bounds_after}
use Rattle.bites_table.proofs.BoundLemmas.{one_range}
use Rattle.bites_table.proofs.bounds.push_ranges.Goals as goal

pub loop-first-preserved : goal.loop-first-preserved
loop-first-preserved c =
    let first : c.push.new.self.items ≡ c.loop-first.bounds.items ++ (slice_index_or c.args.ranges.now c.loop-first.first-index (0, 0)).0 ∷ [] = search rules in
    let second : c.push_after.new.bounds.items ≡ c.push.new.self.items ++ bounds_after (slice_index_or c.args.ranges.now c.loop-first.first-index (0, 0)).1 = search rules in
    one_range c.args.bounds.now.items c.loop-first.bounds.items c.push.new.self.items c.push_after.new.bounds.items c.args.ranges.now c.loop-first.first-index (omega arith) c.loop-first.invariant first second
