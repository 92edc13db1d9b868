use Rattle.bites_machine.proofs.Library.{common_steps, refl, ◌≤◌, length, map, sym, ap, Listed, ◌∙◌, subst, arith, length-map, Room, Fit, HasRoomFor, is_longest, is_earliest, thread_in}
use Rattle.bites_machine.proofs.refine.ResumeLemmas.{few_threads, place_reached, between_loaded}
use Rattle.bites_machine.proofs.vm.memory.Memory.resume.Goals as goal
use Rattle.bites_machine.proofs.vm.memory.Memory.resume.Goals.{After-setup_search}

abbrev room_of : After-setup_search → Fit
room_of c = record { states = c.self.inside.states; slots = c.self.inside.slots; targets = c.self.inside.targets }

fits_room : (c : After-setup_search) → HasRoomFor (room_of c) c.requires.reached.0 (length c.args.slots.now)
fits_room c = subst (λ (v : Room). HasRoomFor v.fits c.requires.reached.0 (length c.args.slots.now)) (sym c.self.view_is) c.requires.reached.2

-- there are no more threads than states
few : (c : After-setup_search) → length c.args.from.now.threads.now ≤ length c.requires.reached.0.states
few c =
    let q = c.requires.reached in
    few_threads q.0 c.args.input.now.haystack.now q.1.well (is_longest c.args.input.now.kind) c.args.input.now.anchored (is_earliest c.args.input.now.kind) c.args.input.now.start c.requires.start
    q.4 (subst (λ n. n ≤ q.0.slots) q.5.len q.3) c.args.from.now.place c.args.from.now.starts c.args.from.now.is_found c.args.counted.now.walked
    (map (thread_in c.args.from.now.started c.args.from.now.registers.now (length c.args.slots.now)) c.args.from.now.threads.now) c.args.slots.now q.5
    (length c.args.from.now.threads.now) (length-map c.args.from.now.threads.now (thread_in c.args.from.now.started c.args.from.now.registers.now (length c.args.slots.now)))

pub load-requires-clause-room : goal.load-requires-clause-room
load-requires-clause-room c = grind (arith, common_steps, few)

pub load-requires-clause-more : goal.load-requires-clause-more
load-requires-clause-more c = grind (arith, common_steps, few)

pub run-requires : goal.run-requires
run-requires c =
    let at = (goal.at.run-requires c).After-setup_search in
    let q = c.requires.reached in
    let fits = subst (λ n. n ≤ q.0.slots) q.5.len q.3 in
    let threads = map (thread_in c.args.from.now.started c.args.from.now.registers.now (length c.args.slots.now)) c.args.from.now.threads.now in
    let set_up = c.setup_search.ensures.room in
    let loaded = c.load.ensures.kept.room in
    record {
      within = search (arith, place_reached);
      program = (q.0, q.1);
      between = between_loaded q.0 c.args.input.now.haystack.now q.1.well (is_longest c.args.input.now.kind) c.args.input.now.anchored (is_earliest c.args.input.now.kind) c.args.input.now.start c.requires.start
          q.4 fits c.args.from.now.place c.args.from.now.starts c.args.from.now.is_found c.args.counted.now.walked threads c.args.slots.now q.5
          c.args.counted.now (room_of at) c.self.inside.scratch c.self.inside.threads c.load.new.rows c.load.new.threads
          refl q.1.states (fits_room at) c.self.invariant
          (record { rows = loaded.rows ∙ set_up.rows; pending = loaded.pending ∙ set_up.pending; max_slots = loaded.max_slots ∙ set_up.max_slots }) (c.load.ensures.room ∙ ap (λ (l : Listed). l.room) c.clear.ensures)
          (sym (c.load.ensures.kept.slots_per_row ∙ c.setup_search.ensures.set_up.slots_per_row)) c.load.ensures.used c.load.ensures.threads;
    }
