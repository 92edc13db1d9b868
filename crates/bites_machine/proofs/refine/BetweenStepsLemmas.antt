-- What holds between two steps, and what the closures of one place make of it.
use Rattle.bites_machine.proofs.Library.{common_steps, ◌≡◌, ℕ, zero, suc, ◌+◌, ◌<◌, ◌≤◌, inl, Bool, false, cond, List, [], ◌∷◌, ◌++◌, map, length, sum, Some, None, refl, sym, ap, subst, arith, eq-eqb, ne_eqb, eqb-true, if◌then◌else◌, replicate, slice_index, get_or-set_other, length-replicate, sum_by-cons, sum_by-set, Among, Program, Configuration, State, at, state_at, targets_of, HasRanges, AreStates, IsWellFormed, Pool, one_less, with_counts, Listed, IsUsed, slots_at, WalkState, walk_state, states_in, thread_of, first_match_of, row_of, AreSound, kept_by, seen_here, visited_before, InvariantWithinStep, ClosesThread, ClosesThreads, ClosesAll, InvariantBetweenSteps, WalksHere, walking_at, Position, Thread, Scratch, Among-append, Among-map, MachineThread, cases_eq}
use Rattle.bites_machine.proofs.tables.UsedLemmas.{user_counted, released}
use Rattle.bites_machine.proofs.refine.ClosureSteps.{keeps_through, states_kept, kept_nothing}
use Rattle.bites_machine.proofs.model.MachineWalks.{walks_through}

-- the states of a program without a fault
sound_at : (n slots : ℕ) (ss : List State) (q : ℕ) → AreStates n slots ss → q < length ss → HasRanges (state_at ss q) × ((r : ℕ) → Among (targets_of (state_at ss q)) r → r < n)
sound_at n slots [] q are lt = absurd (omega arith)
sound_at n slots (s ∷ ss) zero are lt = (are.1, are.0)
sound_at n slots (s ∷ ss) (suc q) are lt = sound_at n slots ss q are.3 (omega arith)

pub sound_states : (p : Program) → IsWellFormed p → AreSound p.states
sound_states p well q lt = sound_at (length p.states) p.slots p.states q well.states lt

none_counted : (ref_counts : List ℕ) → ((row : ℕ) → slice_index ref_counts row ≡ 0) → sum ref_counts ≡ 0
none_counted [] none = refl
none_counted (c ∷ ref_counts) none = omega (arith, sum_by-cons (λ (n : ℕ). n) c ref_counts, none 0, none_counted ref_counts (λ row. none (suc row)))

-- no more users are counted than there are
pub sum_within : (users : List ℕ) (pool : Pool) → slice_index pool.ref_counts 0 ≡ 0 → IsUsed pool users → sum pool.ref_counts ≤ length users
sum_within [] pool first used = grind (arith, common_steps, none_counted, cases_eq, eq-eqb, get_or-set_other, user_counted, sum_by-set, released)
sum_within (u ∷ users) pool first used =
    let still : slice_index (one_less pool.ref_counts u) 0 ≡ 0 = grind (arith, common_steps, cases_eq, ne_eqb, get_or-set_other) in
    let less : sum (one_less pool.ref_counts u) ≤ length users = sum_within users (with_counts (one_less pool.ref_counts u) pool) still (released u users pool used) in
    grind (arith, common_steps, cases_eq, ne_eqb, user_counted, sum_by-set)

-- what was visited at places before this one
pub none_here : (place : ℕ) (vs : List Configuration) → ((v : Configuration) → Among vs v → v.place < place) → seen_here place vs ≡ []
none_here place [] before = refl
none_here place (v ∷ vs) before = ap (λ (b : Bool). cond b (v.state ∷ seen_here place vs) []) (ne_eqb v.place place (λ e. absurd (omega (arith, before v (inl refl), e))))

pub all_before : (place : ℕ) (vs : List Configuration) → ((v : Configuration) → Among vs v → v.place < place) → visited_before place vs ≡ vs
all_before place [] before = refl
all_before place (v ∷ vs) before = ap (λ (b : Bool). cond b (visited_before place vs) (v ∷ vs)) (ne_eqb v.place place (λ e. absurd (omega (arith, before v (inl refl), e))))

-- what was visited here, and what before that
pub here_and_before : (place : ℕ) (vs : List Configuration) → map (λ q. at q place) (seen_here place vs) ++ visited_before place vs ≡ vs
here_and_before place [] = refl
here_and_before place (v ∷ vs) = grind (arith, common_steps, eqb-true, (here_and_before place vs))

among_both : (place : ℕ) (seen : List ℕ) (vs : List Configuration) (v : Configuration) → ((u : Configuration) → Among vs u → u.place < place) → Among (map (λ q. at q place) seen ++ vs) v → v.place < place + 1
among_both place seen vs v before h = grind (arith, common_steps, Among-map, Among-append)

-- nothing was visited after this place
pub none_behind : (place : ℕ) (vs : List Configuration) → ((v : Configuration) → Among (visited_before place vs) v → v.place < place) → (v : Configuration) → Among vs v → v.place < place + 1
none_behind place vs before v h = among_both _ _ _ _ before (subst (λ (l : List Configuration). Among l v) (sym (here_and_before _ _)) h)

-- before the first closure of a place is explored
pub within_step_cleared : (here : Position) (list : Listed) (w : WalkState) (cleared : Scratch) → AreSound (states_in w) → InvariantBetweenSteps here.place list w →
    cleared.visited_set ≡ replicate (length w.scratch.visited_set) false → cleared.stack ≡ w.scratch.stack → cleared.rows ≡ w.scratch.rows → cleared.next.threads ≡ [] → cleared.next.room ≡ w.scratch.next.room →
    slice_index w.scratch.rows.ref_counts 0 ≡ 0 → InvariantWithinStep here (walk_state w.counted cleared w.slots)
within_step_cleared here list w cleared sound b visited_set stack rows next room first = grind (arith, common_steps, length-replicate, none_here, all_before, sum, sum_within)

module _ (here : Position) (threads : List Thread) (old new : WalkState) (w : ClosesThreads here threads [] old new) where
  -- the threads alone
  pub all_without : ClosesAll here None threads old new
  all_without = record {
    within_step = w.within_step;
    keeps = w.keeps;
    users = w.users;
    walks = λ p is.
        subst (λ (l : List MachineThread). WalksHere here p (walking_at here old (kept_by here old (map (thread_of old.scratch.rows) threads ++ []))) (walking_at here new l))
        (kept_nothing here.haystack.now here.longest (first_match_of new.scratch.first_match new.slots)) (w.walks p is []);
  }

  -- the row of the start is one where nothing is written
  pub start_used : IsUsed new.scratch.rows (0 ∷ (map row_of new.scratch.next.threads ++ []))
  start_used = grind (arith, common_steps)

  -- the threads, and after them the start
  pub all_with : (q start : ℕ) (last : WalkState) → start ≡ (if here.longest then here.place else 0) →
      ClosesThread here (record { state = q; row = 0; start = start }) new last → ClosesAll here (Some q) threads old last
  all_with q start last begins past = record {
    within_step = past.within_step;
    keeps = keeps_through here old new last w.keeps past.keeps;
    users = past.users [] start_used;
    walks = λ p is.
        let t : MachineThread = record { state = q; start = if here.longest then here.place else 0; slots = replicate (length old.slots) None } in
        let a = walking_at here old (kept_by here old (map (thread_of old.scratch.rows) threads ++ t ∷ [])) in
        let b = walking_at here new (kept_by here new (t ∷ [])) in
        let same : record { state = q; start = start; slots = slots_at new.scratch.rows 0 } ≡ t = grind (arith, common_steps, start_used) in
        let on = subst (λ (u : MachineThread). WalksHere here p (walking_at here new (kept_by here new (u ∷ []))) (walking_at here last (kept_by here last []))) same
        (past.walks p (states_kept here old new w.keeps p.states is) [] start_used []) in
        subst (λ (l : List MachineThread). WalksHere here p a (walking_at here last l)) (kept_nothing here.haystack.now here.longest (first_match_of last.scratch.first_match last.slots))
        (walks_through here.haystack.now here.longest p here.place a b (walking_at here last (kept_by here last [])) (w.walks p is (t ∷ [])) on);
  }
