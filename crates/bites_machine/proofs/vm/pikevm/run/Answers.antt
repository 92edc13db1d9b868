use Rattle.bites_machine.proofs.Library.{common_steps, refl, ◌≡◌, ◌+◌, ℕ, true, false, List, [], Option, length, map, sym, ap, ◌∙◌, arith, nil_from_length, piece, is_longest, is_earliest, states_of, thread_of, IsProgramOf, ReachedBy, SearchResult, Program}
use Rattle.bites_machine.proofs.refine.PlaceSearches.{ends_by, place_done}
use Rattle.bites_machine.proofs.refine.ClosureSteps.{passes_through}
use Rattle.bites_machine.proofs.vm.pikevm.run.Goals as goal
use Rattle.bites_machine.proofs.vm.pikevm.run.Goals.{After-is_over}

-- the search is over, or it has gone on to the next place
done : (c : After-is_over) (p : Program) → IsProgramOf p (states_of c.args.counted.now.states.now) c.args.first → (before : List (Option ℕ)) →
    ReachedBy p c.args.input.now before c.args.from.now.place c.args.from.now.starts c.args.from.now.is_found c.args.counted.now.walked
    (map (thread_of c.args.scratch.now.rows) c.args.threads.now.threads) c.args.slots.now →
    (c.is_over.result ≡ true → SearchResult p c.args.input.now.haystack.now (is_longest c.args.input.now.kind) c.args.input.now.anchored (is_earliest c.args.input.now.kind)
    c.args.input.now.start c.is_found_with-is_found.result before c.step_threads.new.slots c.step_threads.new.counted.walked)
    × (c.is_over.result ≡ false → ReachedBy p c.args.input.now before (c.places.place + c.piece_at-here.result.ch_len) c.starts_on-starts.result c.is_found_with-is_found.result
    c.step_threads.new.counted.walked (map (thread_of c.step_threads.new.scratch.rows) c.step_threads.new.threads.threads) c.step_threads.new.slots)
done c p is before reached =
    let e = c.piece_at-here.ensures in
    let inv = c.places.invariant in
    let states = ap (λ s. states_of s.now) inv.passes.states in
    let len : c.piece_at-here.result.ch_len ≡ (piece c.args.input.now.haystack.now c.places.place).len = grind (arith, common_steps) in
    let test : ends_by (is_earliest c.args.input.now.kind) c.piece_at-here.result.ch_len c.is_found_with-is_found.result c.starts_on-starts.result c.len.result ≡ c.is_over.result = grind arith in
    rw test at (place_done _ _ _ _ _ _ _ _ _ _ _ _ _ _ _ _ _ _ _ _ _
    e.haystack (e.longest ∙ c.is_longest-longest.ensures) e.place (record { states = is.states ∙ sym states; start = is.start; well = is.well }) c.first_of-begins.ensures c.starts_on-starts.ensures
    c.is_found_with-is_found.ensures len c.len.ensures (inv.gone p is before reached) c.step_threads.ensures)

pub returns-then-is_over-clause-runs : goal.returns-then-is_over-clause-runs
returns-then-is_over-clause-runs c = record {
  stopped = λ p is before reached. (done (goal.at.returns-then-is_over-clause-runs c).After-is_over p is before reached).0 c.if-is_over.true;
  whole = λ e. refl;
  passes = passes_through _ _ _ c.places.invariant.passes c.step_threads.ensures.passes;
}

pub returns-then-len-eq0-clause-runs : goal.returns-then-len-eq0-clause-runs
returns-then-len-eq0-clause-runs c = record {
  stopped = λ p is before reached.
      let over = (goal.at.returns-then-len-eq0-clause-runs c).After-is_over in
      let new = c.step_threads.new in
      let none : new.threads.threads ≡ [] = nil_from_length new.threads.threads (sym c.len-then-from.ensures ∙ c.if-len-eq0.true) in
      let starts : c.starts_on-starts.result ≡ true = grind arith in
      rw (none, starts) at ((done over p is before reached).1 c.if-is_over.false);
  whole = λ e. cc;
  passes = passes_through _ _ _ c.places.invariant.passes c.step_threads.ensures.passes;
}

pub places-preserved : goal.places-preserved
places-preserved c =
    let over = (goal.at.places-preserved c).After-is_over in
    let e = c.piece_at-here.ensures in
    let inv = c.places.invariant in
    let here = c.piece_at-here.result in
    record {
      within = omega (arith, here.within, e.place, ap length e.haystack);
      passes = passes_through _ _ _ inv.passes c.step_threads.ensures.passes;
      between = grind arith;
      gone = λ p is before reached. (done over p is before reached).1 c.if-is_over.false;
    }
