use Rattle.bites_machine.proofs.Library.{common_steps, ◌≡◌, ◌≤◌, ◌+◌, ◌-◌, ◌*◌, ◌++◌, ◌∷◌, [], ℕ, Option, List, length, take, drop, ap, ◌∙◌, arith, length-append, length-drop, slice_index_or, length-take-le, Pool, Listed, row_in, RegisterThread}
use Rattle.bites_machine.proofs.tables.UsedLemmas.{Places, placed}
use Rattle.bites_machine.proofs.refine.BetweenStepsLemmas.{sum_within}
use Rattle.bites_machine.proofs.refine.PlaceLemmas.{among_index}
use Rattle.bites_machine.proofs.refine.ResumeLemmas.{loaded_used, loaded_more}
use Rattle.bites_machine.proofs.vm.resume.load.Goals as goal
use Rattle.bites_machine.proofs.vm.resume.load.Goals.{In-loop-index}

abbrev none : RegisterThread
none = record { state = 0; register = 0 }

row_there : (c : In-loop-index) → (slice_index_or c.args.from.now.threads.now c.loop-index.index none).register * c.args.slots_per_row + c.args.slots_per_row ≤ length c.args.from.now.registers.now
row_there c = c.requires.registers (slice_index_or c.args.from.now.threads.now c.loop-index.index none) (among_index c.args.from.now.threads.now c.loop-index.index none c.loop-index-test.true)

pub overflow_mul-first : goal.overflow_mul-first
overflow_mul-first c = omega (arith, row_there (goal.at.overflow_mul-first c).In-loop-index, c.type_inv.from)

pub overflow_add-first : goal.overflow_add-first
overflow_add-first c = omega (arith, row_there (goal.at.overflow_add-first c).In-loop-index, c.type_inv.from)

pub offset_bounds-from-first : goal.offset_bounds-from-first
offset_bounds-from-first c = omega (arith, row_there (goal.at.offset_bounds-from-first c).In-loop-index, c.type_inv.from)

pub slice_bounds-load-end : goal.slice_bounds-load-end
slice_bounds-load-end c = omega (arith, row_there (goal.at.slice_bounds-load-end c).In-loop-index)

pub load-row-requires-clause-room : goal.load-row-requires-clause-room
load-row-requires-clause-room c = grind (arith, common_steps, sum_within)

pub loop-index-preserved : goal.loop-index-preserved
loop-index-preserved c =
    let ts = c.args.from.now.threads.now in
    let words = c.args.from.now.registers.now in
    let w = c.args.slots_per_row in
    let started = c.args.from.now.started in
    let i = c.loop-index.index in
    let inv = c.loop-index.invariant in
    let old = c.loop-index.rows in
    let new = c.load-row.new.self in
    let t = slice_index_or ts i none in
    let first = t.register * w in
    let row : ◌≡◌ {A = List (Option ℕ)} (take (first + w - first) (drop first words)) (take w (drop first words)) = ap (λ (n : ℕ). take n (drop first words)) (omega arith) in
    let wide : length (take w (drop first words)) ≡ old.slots_per_row = grind (arith, common_steps, length-take-le, length-drop) in
    let by : Places c.load-row.result (row_in words w t.register) old new = placed _ _ old new (rw (← row) c.load-row.ensures) inv.used.rows wide in
    let pushed : c.push.new.self.threads ≡ c.loop-index.threads.threads ++ record { state = t.state; row = c.load-row.result; start = started } ∷ [] = ap (λ (l : Listed). l.threads) c.push.ensures in
    record {
      within = omega (arith, c.loop-index-test.true);
      len = ap length pushed ∙ length-append c.loop-index.threads.threads _ ∙ ap (λ (n : ℕ). n + 1) inv.len;
      used = rw pushed (loaded_used words w started old new c.loop-index.threads.threads c.load-row.result t by inv.used);
      threads = grind (arith, loaded_more);
      room = ap (λ (l : Listed). l.room) c.push.ensures ∙ inv.room;
      kept = grind arith;
      slots_per_row = ap (λ (p : Pool). p.slots_per_row) c.load-row.ensures.is ∙ inv.slots_per_row;
    }
