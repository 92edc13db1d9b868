use Rattle.bites_machine.proofs.Library.{common_steps, ◌≡◌, ◌≤◌, List, length, map, sym, ap, ◌∙◌, arith, rules, is_longest, is_earliest, states_of, thread_in, IsProgramOf, SearchResult, RegisterThread}
use Rattle.bites_machine.proofs.model.MachineAnswers.{is_nothing}
use Rattle.bites_machine.proofs.refine.PlaceSearches.{reached_first}
use Rattle.bites_machine.proofs.refine.SearchResultLemmas.{Did, slots_fit, did_answer, did_visit, did_bounded}
use Rattle.bites_machine.proofs.vm.memory.Memory.search.Goals as goal
use Rattle.bites_machine.proofs.vm.memory.Memory.search.Goals.{After-finish, then-input, else-input}

fits : (c : After-finish) → length c.args.slots.now ≤ c.args.program.now.program.slots
fits c = slots_fit (length c.args.slots.now) c.args.program.now.program.slots c.start-first.ensures.well_formed.slots c.requires.slots

-- what the search did
did : (c : After-finish) → Did c.args.program.now.program c.args.input.now.haystack.now c.start-first.ensures.well_formed c.args.input.now.anchored c.args.input.now.start
    c.if-input.is_found c.args.slots.now c.if-input.slots c.finish.new.self.walked (fits c) (is_longest c.args.input.now.kind) (is_earliest c.args.input.now.kind)
did c =
    let p = c.args.program.now.program in
    let input = c.args.input.now in
    let old = c.args.slots.now in
    elim c.if-input.branch [
      | then-input w ↦ (
        λ within.
            let is : IsProgramOf p (states_of c.begin-counted.result.states.now) c.start-first.result = grind (arith, common_steps) in
            let from = w.at_start-from.result in
            let begun = w.at_start-from.ensures in
            let first = reached_first p input.haystack.now (is_longest input.kind) input.anchored (is_earliest input.kind) input.start old from.place from.starts from.is_found c.begin-counted.result.walked
            (map (thread_in from.started from.registers.now (length old)) from.threads.now) begun.place begun.starts begun.is_found (ap (λ (ts : List RegisterThread). map (thread_in from.started from.registers.now (length old)) ts) begun.threads)
            c.begin-counted.ensures.visits c.begin-counted.ensures.looks in
            let result : SearchResult p input.haystack.now (is_longest input.kind) input.anchored (is_earliest input.kind) input.start w.resume.result.is_found old w.resume.new.slots w.resume.new.counted.walked =
            rw (w.resume.ensures.whole begun.until_idle) at (w.resume.ensures.stopped p is old first) in
            let walked : w.resume.new.counted.walked ≡ c.finish.new.self.walked = sym (c.finish.ensures.walked ∙ ap (λ k. k.walked) w.counted-is) in
            rw (w.is_found-is, w.slots-is, ← walked) result,
        λ past. absurd (omega (arith, past, w.if-input.true)),
      )
      | else-input w ↦ (
        λ within. absurd (omega (arith, within, w.if-input.false)),
        λ past. (
          w.is_found-is,
          w.slots-is,
          c.finish.ensures.walked ∙ ap (λ k. k.walked) w.counted-is
              ∙ is_nothing c.begin-counted.result.walked c.begin-counted.ensures.visits c.begin-counted.ensures.read c.begin-counted.ensures.looks,
        ),
      )
    ]

pub returns-clause-search : goal.returns-clause-search
returns-clause-search c =
    let end = (goal.at.returns-clause-search c).After-finish in
    record {
      answer = grind (arith, did_answer, fits, did);
      fits = search rules;
      bounded = grind (arith, did_bounded, fits, did);
      visited = grind (arith, did_visit, fits, did);
      searches = search rules;
      searched = (did end).0;
    }
