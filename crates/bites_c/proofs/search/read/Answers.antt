use Rattle.bites_c.proofs.search.read.Goals as goal

pub returns-then-anchored : goal.returns-then-anchored
returns-then-anchored c = rw c.if-anchored.true c.captures_read_anchored_at_with.ensures

pub returns-else-anchored : goal.returns-else-anchored
returns-else-anchored c = rw c.if-anchored.false c.captures_read_at_with.ensures
