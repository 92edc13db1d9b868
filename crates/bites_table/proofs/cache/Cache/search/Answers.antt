use Rattle.bites_table.proofs.Library.{common_steps, is_longest, is_earliest, ◌≤◌, length, arith, Did, slots_fit, did_answer, did_visit, did_bounded}
use Rattle.bites_table.proofs.cache.Cache.search.Goals as goal
use Rattle.bites_table.proofs.cache.Cache.search.Goals.{After-slots-1}

fits : (c : After-slots-1) → length c.args.slots.now ≤ c.args.program.now.program.slots
fits c = slots_fit (length c.args.slots.now) c.args.program.now.program.slots c.start.ensures.well_formed.slots c.requires.slots

-- what the search did
did : (c : After-slots-1) → Did c.args.program.now.program c.args.input.now.haystack.now c.start.ensures.well_formed c.args.input.now.anchored c.args.input.now.start
    c.search_by_table.result c.args.slots.now c.search_by_table.new.slots c.search_by_table.new.self.walked (fits c) (is_longest c.args.input.now.kind) (is_earliest c.args.input.now.kind)
did c = grind (arith, common_steps)

pub returns-in-Some-clause-search : goal.returns-in-Some-clause-search
returns-in-Some-clause-search c = grind (arith, common_steps, did_answer, fits, did, did_bounded, did_visit)
