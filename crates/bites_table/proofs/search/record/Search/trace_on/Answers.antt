use Rattle.bites_table.proofs.Library.{◌≡◌, ◌+◌, ◌≤◌, refl, sym, subst, piece}
use Rattle.bites_table.proofs.Words.{Asked, IsAtRow, asked, ComesTo}
use Rattle.bites_table.proofs.SearchesLemmas.{asked_same, same_same}
use Rattle.bites_table.proofs.TraceLemmas.{comes_to_list, next_within}
use Rattle.bites_table.proofs.search.record.Search.trace_on.Goals as goal

pub note_skip-requires-clause-onward : goal.note_skip-requires-clause-onward
note_skip-requires-clause-onward g c =
    let was = c.places.self in
    let now = c.turn.new.self in
    let at = c.places.at in
    let to = c.in-Goes.to in
    let stood : IsAtRow (asked now g.before) at.place at.row c.places.registers c.places.is_found c.places.slots was.counted.walked =
    subst (λ (a : Asked). IsAtRow a at.place at.row c.places.registers c.places.is_found c.places.slots was.counted.walked)
    (sym (asked_same was now g.before c.turn.ensures.same)) c.places.invariant.stands in
    subst (λ i. i ≤ to.place) (sym c.next_place-next.ensures)
    (next_within (asked now g.before) at.place at.row c.places.registers c.places.is_found c.places.slots was.counted.walked stood
    to.place to.row c.turn.new.registers c.in-Goes.found c.turn.new.slots now.counted.walked c.in-Goes.ensures.turns.0 c.in-Goes.ensures.turns.1)

pub places-preserved : goal.places-preserved
places-preserved g c =
    let first = c.args.self.now in
    let was = c.places.self in
    let now = c.turn.new.self in
    let at = c.places.at in
    let to = c.in-Goes.to in
    let same = same_same first was now c.places.invariant.same c.turn.ensures.same in
    let s = asked first g.before in
    let list_there : ComesTo s at.place c.number-list.result =
    subst (λ (a : Asked). ComesTo a at.place c.number-list.result) (asked_same first was g.before c.places.invariant.same)
    (comes_to_list (asked was g.before) at.place at.row c.places.registers c.places.is_found c.places.slots was.counted.walked c.places.invariant.stands c.number-list.result c.number-list.ensures.number) in
    let next : c.next_place-next.result ≡ at.place + (piece s.input.hay at.place).len =
    subst (λ (a : Asked). c.next_place-next.result ≡ at.place + (piece a.input.hay at.place).len) (asked_same first now g.before same) c.next_place-next.ensures in
    record {
      same = same;
      stands = c.in-Goes.ensures.turns.0;
      lead = c.in_ok-note_skip-in-Goes.ensures s (c.in_ok-push-in-Goes.ensures s c.next_place-next.result c.places.invariant.lead (list_there, next))
          (λ n e. subst (λ (a : Asked). ComesTo a to.place n) (asked_same first now g.before same)
          (comes_to_list (asked now g.before) to.place to.row c.turn.new.registers c.in-Goes.found c.turn.new.slots now.counted.walked c.in-Goes.ensures.turns.0 n e));
    }

pub returns-in-Ends-clause-lead : goal.returns-in-Ends-clause-lead
returns-in-Ends-clause-lead g c =
    let first = c.args.self.now in
    let was = c.places.self in
    let at = c.places.at in
    let s = asked first g.before in
    let list_there : ComesTo s at.place c.number-list.result =
    subst (λ (a : Asked). ComesTo a at.place c.number-list.result) (asked_same first was g.before c.places.invariant.same)
    (comes_to_list (asked was g.before) at.place at.row c.places.registers c.places.is_found c.places.slots was.counted.walked c.places.invariant.stands c.number-list.result c.number-list.ensures.number) in (
      at.place + (piece s.input.hay at.place).len,
      c.in_ok-push-in-Ends.ensures s (at.place + (piece s.input.hay at.place).len) c.places.invariant.lead (list_there, refl),
    )
