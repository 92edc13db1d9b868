use Rattle.bites_table.proofs.Library.{◌≡◌, arith, common_steps}
use Rattle.bites_table.proofs.Words.{Held, HitsAt}
use Rattle.bites_table.proofs.SearchesLemmas.{can_go_on, hit_slots_length}
use Rattle.bites_table.proofs.search.record.Search.pass_hits.Goals as goal
use Rattle.bites_table.proofs.search.record.Search.pass_hits.Goals.{In_ok-first}
use Rattle.bites_table.proofs.search.record.Search.pass_hits.Given.{Over}

abbrev held : (g : Over) → In_ok-first g → Held
held g c = record { before = g.before; registers = c.args.registers.now; is_found = c.args.was_found; slots = c.args.slots.now }

hit : (g : Over) (c : In_ok-first g) → HitsAt c.lend_hit.new.self c.args.width (held g c) c.args.from c.args.piece.len c.in_ok-first.first
hit g c = c.in_ok-first.ensures.hit (held g c) c.requires.0

pub lend_hit-requires-clause-on : goal.lend_hit-requires-clause-on
lend_hit-requires-clause-on g c = (record { before = g.before; registers = c.args.registers.now; is_found = c.args.was_found; slots = c.args.slots.now }, c.requires.0)

pub write_hit-requires-clause-there : goal.write_hit-requires-clause-there
write_hit-requires-clause-there g c = (hit g (goal.at.write_hit-requires-clause-there g c).In_ok-first).there

pub returns-then-piece-gt1-clause-stands : goal.returns-then-piece-gt1-clause-stands
returns-then-piece-gt1-clause-stands g c = (
  rw (← c.write_hit.ensures) at (hit g (goal.at.returns-then-piece-gt1-clause-stands g c).In_ok-first).stands,
  let some = c.requires.1.1.1 in omega arith,
)

-- only a byte of ASCII is left here
pub repeat_hits-requires : goal.repeat_hits-requires
repeat_hits-requires g c =
    let some = c.requires.1.1.1 in
    let one : c.args.piece.len ≡ 1 = omega arith in
    let first = hit g (goal.at.repeat_hits-requires g c).In_ok-first in
    grind (arith, common_steps, hit_slots_length, can_go_on)
