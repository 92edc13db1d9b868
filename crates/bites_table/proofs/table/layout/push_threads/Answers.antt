use Rattle.bites_table.specs.Steps.{most_registers}
use Rattle.bites_table.proofs.Library.{rules, ◌≡◌, ◌<◌, ◌+◌, List, [], ◌∷◌, ◌++◌, map, take, ap, sym, ◌∙◌, subst, ⊎_elim, slice_index_or, map_more, RegisterThread}
use Rattle.std.proofs.lemmas.List.{append_assoc}
use Rattle.bites_table.specs.LaidOut.{register_thread}
use Rattle.bites_table.specs.declared.thread_list.Thread.{Thread}
use Rattle.bites_table.proofs.LaidOutLemmas.{held-more}
use Rattle.bites_table.proofs.table.layout.push_threads.Goals as goal

pub loop-thread-preserved : goal.loop-thread-preserved
loop-thread-preserved c =
    let i = c.loop-thread.thread-index in
    let d : Thread = record { state = 0; register = 0 } in
    let threads = c.args.threads.now in
    let all = c.loop-thread.all.items in
    let own : RegisterThread = register_thread (slice_index_or threads i d) in
    let pushed : c.push.new.self.items ≡ all ++ own ∷ [] = search rules in
    let more : map register_thread (take (i + 1) threads) ≡ map register_thread (take i threads) ++ own ∷ [] = map_more register_thread threads i d c.loop-thread-test.true in
    record {
      threads = pushed ∙ ap (λ (l : List RegisterThread). l ++ own ∷ []) c.loop-thread.invariant.threads
          ∙ append_assoc c.args.all.now.items (map register_thread (take i threads)) (own ∷ []) ∙ ap (λ (l : List RegisterThread). c.args.all.now.items ++ l) (sym more);
      held = λ h. held-more most_registers all (own ∷ []) c.push.new.self.items pushed (c.loop-thread.invariant.held h)
          (λ t is. ⊎_elim (λ e. subst (λ (r : RegisterThread). r.register < most_registers) e c.if-register-ge-MOST_REGISTERS.false) (λ other. absurd other) is);
    }
