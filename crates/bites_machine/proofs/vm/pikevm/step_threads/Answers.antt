use Rattle.bites_machine.proofs.Library.{common_steps, arith, None, refl, ap, Listed, walk_state, with_next, CanCloseAll, PlaceSearched, Scratch}
use Rattle.bites_machine.proofs.refine.BetweenStepsLemmas.{within_step_cleared, sound_states}
use Rattle.bites_machine.proofs.refine.PlaceSearches.{place_searched}
use Rattle.bites_machine.proofs.vm.pikevm.step_threads.Goals as goal

pub close_all-requires : goal.close_all-requires
close_all-requires c =
    let old = walk_state c.args.counted.now c.args.scratch.now c.args.slots.now in
    let cleared : Scratch = record { visited_set = c.clear.new.self; stack = c.args.scratch.now.stack; rows = c.args.scratch.now.rows; next = c.clear-2.new.self; first_match = None } in
    let all : CanCloseAll c.args.here.now c.args.threads.now.threads (walk_state c.args.counted.now cleared c.args.slots.now) = record {
      within_step = within_step_cleared c.args.here.now c.args.threads.now old cleared
          (rw (← c.requires.program.1) (sound_states c.requires.program.0 c.requires.program.2)) c.requires.between
          c.clear.ensures refl refl (ap (λ (l : Listed). l.threads) c.clear-2.ensures) (ap (λ (l : Listed). l.room) c.clear-2.ensures) c.first_is_free.ensures;
      known = c.requires.between.known;
      used = rw (ap (λ (l : Listed). l.threads) c.clear-2.ensures) c.requires.between.used;
    } in
    record { close = all; first = grind (arith, common_steps) }

pub returns : goal.returns
returns c =
    let old = walk_state c.args.counted.now c.args.scratch.now c.args.slots.now in
    let cleared : Scratch = record { visited_set = c.clear.new.self; stack = c.args.scratch.now.stack; rows = c.args.scratch.now.rows; next = c.clear-2.new.self; first_match = None } in
    let new = walk_state c.close_all.new.counted c.close_all.new.scratch c.close_all.new.slots in
    let searched = place_searched c.args.here.now c.args.first c.args.threads.now.threads (walk_state c.args.counted.now cleared c.args.slots.now) new c.close_all.ensures refl (ap (λ (l : Listed). l.threads) c.clear-2.ensures) c.requires.between.visits
    c.requires.program.0 c.requires.program.1 c.requires.program.2 c.requires.program.3 c.args.threads.now c.requires.between.known c.requires.between.room.threads refl in
    let begun : PlaceSearched c.args.here.now c.args.first c.args.threads.now new.scratch.next old (walk_state new.counted (with_next c.args.threads.now new.scratch) new.slots) = grind (arith, common_steps) in
    rw c.swap.ensures.other (rw c.swap.ensures.this begun)
