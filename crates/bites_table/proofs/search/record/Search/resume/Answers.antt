use Rattle.bites_table.proofs.Library.{common_steps, is_longest, is_earliest, states_of, thread_in, IsProgramOf, HasReached, true, [], length, map, sym, arith}
use Rattle.bites_table.proofs.SearchesLemmas.{handed, back_within, comes_to}
use Rattle.bites_table.proofs.search.record.Search.resume.Goals as goal
use Rattle.bites_table.proofs.search.record.Search.resume.Goals.{After-resume-arg-3-1, In-Some}
use Rattle.bites_table.proofs.search.record.Search.resume.Given.{Over}

is_program : (g : Over) (c : After-resume-arg-3-1 g) → IsProgramOf c.args.self.now.program.now.program (states_of c.args.self.now.counted.states.now) c.start-first.result
is_program g c = record { states = sym c.requires.1.states; start = sym c.start-first.ensures.start; well = c.start-first.ensures.well_formed }

-- the Pike VM goes on from here
reached : (g : Over) (c : After-resume-arg-3-1 g) → let now = c.args.self.now in
    HasReached now.program.now.program now.input.now.haystack.now (is_longest now.input.now.kind) now.input.now.anchored (is_earliest now.input.now.kind) now.input.now.start g.before
    c.args.at.place c.starts_at.result c.args.is_found now.counted.walked (map (thread_in c.noted_start.result c.args.registers.now (length c.args.slots.now)) c.threads.result.now) c.args.slots.now
reached g c = grind (arith, common_steps, handed)

-- and comes back where no thread is left
back : (g : Over) (c : In-Some g) → let now = c.args.self.now in
    HasReached now.program.now.program now.input.now.haystack.now (is_longest now.input.now.kind) now.input.now.anchored (is_earliest now.input.now.kind) now.input.now.start g.before
    c.in-Some.place true c.resume-stopped.result.is_found c.resume-stopped.new.counted.walked [] c.resume-stopped.new.slots
back g c =
    let at = (goal.at.root-requires g c).After-resume-arg-3-1 in
    rw c.in-Some.is at (c.resume-stopped.ensures.stopped c.args.self.now.program.now.program (is_program g at) g.before (reached g at))

pub resume-stopped-requires-clause-reached : goal.resume-stopped-requires-clause-reached
resume-stopped-requires-clause-reached g c = grind (arith, common_steps, handed)

pub returns-in_default-clause-comes : goal.returns-in_default-clause-comes
returns-in_default-clause-comes g c =
    let at = (goal.at.returns-in_default-clause-comes g c).After-resume-arg-3-1 in
    let stopped = c.resume-stopped.ensures.stopped c.args.self.now.program.now.program (is_program g at) g.before (reached g at) in
    grind (arith, common_steps)

pub root-requires : goal.root-requires
root-requires g c =
    let now = c.args.self.now in
    back_within (record { program = now.program; table = now.table; input = now.input; counted = c.resume-stopped.new.counted }) g.before c.requires.0.is_asked
    c.in-Some.place c.resume-stopped.result.is_found c.resume-stopped.new.slots (back g c)

pub returns-clause-comes : goal.returns-clause-comes
returns-clause-comes g c = (
  c.root.ensures.row,
  c.root.ensures.within,
  comes_to _ g.before c.requires.0.is_asked c.in-Some.place c.resume-stopped.result.is_found c.resume-stopped.new.slots (back g (goal.at.returns-clause-comes g c).In-Some)
      c.args.registers.now c.root.result.0 c.root.result.1 c.root.ensures.place c.root.ensures.row c.root.ensures.number c.root.ensures.within,
)
