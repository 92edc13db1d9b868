use Rattle.bites_table.proofs.Library.{◌+◌, ◌-◌, ◌<◌, true, length, sym, subst, arith, common_steps}
use Rattle.bites_table.proofs.Words.{CanGoOnWith, Held, hit_slots}
use Rattle.bites_table.proofs.SearchesLemmas.{can_go_on, hit_slots_length, same_same, stands_within}
use Rattle.bites_table.proofs.search.record.Search.repeat_hits.Goals as goal
use Rattle.bites_table.proofs.search.record.Search.repeat_hits.Goals.{After-lend_next_hit-arg-1}
use Rattle.bites_table.proofs.search.record.Search.repeat_hits.Given.{Over}

-- what is held of the search before a byte
abbrev held : (g : Over) → After-lend_next_hit-arg-1 g → Held
held g c = record {
  before = g.before;
  registers = c.args.registers.now;
  is_found = true;
  slots = hit_slots c.args.width.table.now c.args.width.slots c.args.registers.now c.bytes.hit c.bytes.at.place;
}

on : (g : Over) (c : After-lend_next_hit-arg-1 g) → CanGoOnWith c.bytes.self c.args.width c.bytes.at (held g c)
on g c = grind (arith, common_steps, hit_slots_length, can_go_on)

pub lend_next_hit-requires-clause-on : goal.lend_next_hit-requires-clause-on
lend_next_hit-requires-clause-on g c = (held g c, on g c)

pub returns-then-lent-at-clause-stands : goal.returns-then-lent-at-clause-stands
returns-then-lent-at-clause-stands g c =
    let d = (goal.at.returns-then-lent-at-clause-stands g c).After-lend_next_hit-arg-1 in
    (c.in-Some.ensures.hit (held g d) (on g d)).stands

pub returns-then-lent-at-clause-there : goal.returns-then-lent-at-clause-there
returns-then-lent-at-clause-there g c =
    let d = (goal.at.returns-then-lent-at-clause-there g c).After-lend_next_hit-arg-1 in
    (c.in-Some.ensures.hit (held g d) (on g d)).there

pub bytes-smaller : goal.bytes-smaller
bytes-smaller g c =
    let d = (goal.at.bytes-smaller g c).After-lend_next_hit-arg-1 in
    let hit = c.in-Some.ensures.hit (held g d) (on g d) in
    let within = stands_within c.bytes.self c.lend_next_hit.new.self g.before _ _ _ _ c.lend_next_hit.ensures.same hit.stands in
    subst (λ i. length i.now.haystack.now - (c.bytes.at.place + 1) < length c.bytes.self.input.now.haystack.now - c.bytes.at.place) (sym c.lend_next_hit.ensures.same.input) (omega arith)

pub bytes-preserved : goal.bytes-preserved
bytes-preserved g c =
    let d = (goal.at.bytes-preserved g c).After-lend_next_hit-arg-1 in
    let hit = c.in-Some.ensures.hit (held g d) (on g d) in
    grind (arith, common_steps, same_same)
