use Rattle.bites_table.proofs.Library.{common_steps, rules, ◌≡◌, List, ◌++◌, map, option_map, ap, ◌∙◌, arith}
use Rattle.bites_table.proofs.Words.{Outcome, Graph, with_outcome, outcome_of, cell_of, list_in, StoredOutcome, outcome_in}
use Rattle.bites_table.proofs.StoredLemmas.{if_none, outcome-stays, parts-kept, parts-pushed, items-kept, items-pushed, range-made}
use Rattle.bites_table.proofs.explore.graph.Graph.push_outcome.Goals as goal

pub invariant_of-self-in_err-ok-2 : goal.invariant_of-self-in_err-ok-2
invariant_of-self-in_err-ok-2 c = grind (arith, common_steps, parts-kept (λ (o : StoredOutcome). o.moves) c.self.inside.moves.items c.extend_from_slice.new.self.items c.args.outcome.now.moves.now c.self.inside.outcomes.items)

pub returns-in_err-ok-2-clause-refused : goal.returns-in_err-ok-2-clause-refused
returns-in_err-ok-2-clause-refused c = grind (arith, common_steps, items-kept (λ (o : StoredOutcome). o.moves) outcome_in outcome-stays, if_none)

pub invariant_of-self-2 : goal.invariant_of-self-2
invariant_of-self-2 c = grind (arith, common_steps, parts-pushed (λ (o : StoredOutcome). o.moves) c.self.inside.moves.items c.extend_from_slice.new.self.items c.args.outcome.now.moves.now c.self.inside.outcomes.items c.push.new.self.items (record { next = c.args.outcome.now.next; moves = record { from = c.len-from.result; to = c.len-to.result }; hit = c.args.outcome.now.hit }))

pub returns-clause-added : goal.returns-clause-added
returns-clause-added c =
    let extended : c.extend_from_slice.new.self.items ≡ c.self.inside.moves.items ++ c.args.outcome.now.moves.now = search rules in
    let stored : StoredOutcome = record { next = c.args.outcome.now.next; moves = record { from = c.len-from.result; to = c.len-to.result }; hit = c.args.outcome.now.hit } in
    let own = range-made c.self.inside.moves.items c.args.outcome.now.moves.now c.extend_from_slice.new.self.items c.len-from.result c.len-to.result extended (search rules) (search rules) in
    let with : List Outcome → Graph = λ os. record { classes = c.self.inside.classes; lists = map (list_in c.self.inside.threads.items) c.self.inside.lists.items; cells = map (option_map cell_of) c.self.inside.cells.items; outcomes = os } in
    ap with (rw own at (items-pushed (λ (o : StoredOutcome). o.moves) outcome_in outcome-stays c.self.inside.moves.items c.extend_from_slice.new.self.items c.args.outcome.now.moves.now c.self.inside.outcomes.items c.push.new.self.items stored extended (search rules) c.self.invariant.outcomes))
    ∙ ap (λ g. with_outcome g (outcome_of c.args.outcome.now)) c.self.view_is
