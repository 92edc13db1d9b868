use Rattle.bites_table.proofs.Library.{common_steps, rules, ◌≡◌, List, ◌++◌, map, option_map, ap, ◌∙◌, arith}
use Rattle.bites_table.proofs.Words.{NumberedList, Graph, numbered, cell_of, outcome_in, StoredList, list_in}
use Rattle.bites_table.specs.Graph.{with_list}
use Rattle.bites_table.proofs.StoredLemmas.{if_none, list-stays, parts-kept, parts-pushed, items-kept, items-pushed, range-made}
use Rattle.bites_table.proofs.explore.graph.Graph.push_list.Goals as goal

pub invariant_of-self-in_err-ok-2 : goal.invariant_of-self-in_err-ok-2
invariant_of-self-in_err-ok-2 c = grind (arith, common_steps, parts-kept (λ (l : StoredList). l.threads) c.self.inside.threads.items c.extend_from_slice.new.self.items c.args.list.now.threads.now c.self.inside.lists.items)

pub returns-in_err-ok-2-clause-refused : goal.returns-in_err-ok-2-clause-refused
returns-in_err-ok-2-clause-refused c = grind (arith, common_steps, items-kept (λ (l : StoredList). l.threads) list_in list-stays, if_none)

pub invariant_of-self-2 : goal.invariant_of-self-2
invariant_of-self-2 c = grind (arith, common_steps, parts-pushed (λ (l : StoredList). l.threads) c.self.inside.threads.items c.extend_from_slice.new.self.items c.args.list.now.threads.now c.self.inside.lists.items c.push.new.self.items (record { threads = record { from = c.len-from.result; to = c.len-to.result }; registers = c.args.registers; starts = c.args.list.now.starts; kind = c.args.list.now.kind }))

pub returns-clause-added : goal.returns-clause-added
returns-clause-added c =
    let extended : c.extend_from_slice.new.self.items ≡ c.self.inside.threads.items ++ c.args.list.now.threads.now = search rules in
    let stored : StoredList = record { threads = record { from = c.len-from.result; to = c.len-to.result }; registers = c.args.registers; starts = c.args.list.now.starts; kind = c.args.list.now.kind } in
    let own = range-made c.self.inside.threads.items c.args.list.now.threads.now c.extend_from_slice.new.self.items c.len-from.result c.len-to.result extended (search rules) (search rules) in
    let with : List NumberedList → Graph = λ ls. record { classes = c.self.inside.classes; lists = ls; cells = map (option_map cell_of) c.self.inside.cells.items; outcomes = map (outcome_in c.self.inside.moves.items) c.self.inside.outcomes.items } in
    ap with (rw own at (items-pushed (λ (l : StoredList). l.threads) list_in list-stays c.self.inside.threads.items c.extend_from_slice.new.self.items c.args.list.now.threads.now c.self.inside.lists.items c.push.new.self.items stored extended (search rules) c.self.invariant.lists))
    ∙ ap (λ g. with_list g (numbered c.args.list.now c.args.registers)) c.self.view_is
