use Rattle.bites_table.proofs.Library.{rules, ◌≡◌, [], ◌∷◌, ◌++◌, map, length, Some, ap, ◌∙◌, arith, length-append, slice_get}
use Rattle.bites_table.proofs.Words.{registers_at, numbered, register_thread, IsEntryOf, ListEntry}
use Rattle.bites_table.proofs.LaidOutLemmas.{entries-push}
use Rattle.bites_table.proofs.table.layout.push_list.Goals as goal
use Rattle.bites_table.proofs.StoredLemmas.{range-made}

pub returns : goal.returns
returns c =
    let g = c.args.graph.now in
    let ts = c.args.lists.now.threads.items in
    let more = map register_thread c.list-list.result.threads.now in
    let new = c.push_threads.new.all.items in
    let es = c.args.lists.now.entries.items in
    let l = numbered c.list-list.result (registers_at g c.args.number) in
    let from : c.in_ok-from.from ≡ length ts = search rules in
    let to : c.in_ok-to.to ≡ length new = search rules in
    let grown : new ≡ ts ++ more = c.in_ok-push_threads.ensures.threads in
    let e : ListEntry = record { threads = record { from = c.in_ok-from.from; to = c.in_ok-to.to } } in
    let pushed : c.push.new.self.items ≡ es ++ e ∷ [] = search rules in
    let len = ap length grown ∙ length-append ts more in
    let own : IsEntryOf new l e = record {
      part = (omega arith, omega arith);
      threads_are = range-made ts more new c.in_ok-from.from c.in_ok-to.to grown from to;
    } in
    let there : slice_get g.lists (length es) ≡ Some l = ap (slice_get g.lists) c.requires.first.count ∙ c.list-list.ensures in
    record {
      count = grind (arith, length-append);
      entries = rw pushed (entries-push g ts more new es l e grown c.requires.first.entries there own);
      held = c.in_ok-push_threads.ensures.held c.requires.first.held;
    }
