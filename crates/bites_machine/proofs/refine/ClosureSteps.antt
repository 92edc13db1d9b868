-- A closure is explored step by step, until no frame is left and the row of its thread is released, while others wait below it.
use Rattle.bites_machine.proofs.Library.{cases_Bool, common_steps, Bor, ◌≡◌, ℕ, Bool, List, [], ◌∷◌, ◌++◌, length, Option, Some, None, sym, ap, ◌∙◌, arith, option_to_list, kept, step, IsUsed, KeepsOf, states_of, WalkState, states_in, thread_of, users_of, IsReady, Keeps, Passes, Explores, exploring, WalksHere, walking_at, StoredState, Position, Thread, Frame, MachineThread, Program, State, cuts, ◌≤◌, true, false, map, refl, subst, true≢false, sum_by, sum_by-cons, targets_of, walk_state, row_of, releases, edges_left, kept_by, CanClose, ClosesThread}
use Rattle.bites_machine.proofs.model.MachineWalks.{walks_through, walks_above}
use Rattle.bites_machine.proofs.tables.UsedLemmas.{released}

-- what is kept twice is kept
pub keeps_through : (here : Position) (a b c : WalkState) → Keeps here a b → Keeps here b c → Keeps here a c
keeps_through here a b c one two = grind arith

pub passes_through : (a b c : WalkState) → Passes a b → Passes b c → Passes a c
passes_through a b c one two = grind arith

-- the states of a program are the same after closures
pub states_kept : (here : Position) (a b : WalkState) → Keeps here a b → (states : List State) → states ≡ states_in a → states ≡ states_in b
states_kept here a b keeps states is = is ∙ sym (ap (λ (l : Bor (List StoredState)). states_of l.now) keeps.passes.states)

-- A closure was explored for some steps, and goes on with these frames.
pub record ClosesSome (here : Position) (t : Thread) (old new : WalkState) (on : Option Frame) : Type 0 where
  pub ready : IsReady here t (option_to_list on ++ new.scratch.stack.frames) new
  pub keeps : Keeps here old new
  pub users : (others : List ℕ) → IsUsed old.scratch.rows (users_of old.scratch t others) → IsUsed new.scratch.rows (users_of new.scratch t others)
  pub kept : (others : List ℕ) → IsUsed old.scratch.rows (users_of old.scratch t others) → KeepsOf others old.scratch.rows new.scratch.rows
  pub room : new.scratch.stack.room ≡ old.scratch.stack.room
  pub rows : length new.scratch.rows.ref_counts ≡ length old.scratch.rows.ref_counts
  pub gone : on ≡ None → new.scratch.stack.frames ≡ []
  pub walks : (p : Program) → p.states ≡ states_in old → (others : List ℕ) → IsUsed old.scratch.rows (users_of old.scratch t others) →
      WalksHere here p (walking_at here old (thread_of old.scratch.rows t ∷ [])) (exploring here t new (option_to_list on ++ new.scratch.stack.frames))

-- what nothing keeps
pub kept_nothing : (hay : List ℕ) (longest : Bool) (first_match : Option MachineThread) → kept hay longest first_match [] ≡ []
kept_nothing hay h g = grind arith

module _ (here : Position) (t : Thread) where
  -- a step more
  pub closes_more : (old new last : WalkState) (f : Frame) (on : Option Frame) → ClosesSome here t old new (Some f) →
      Explores here t f new last on → ClosesSome here t old last on
  closes_more old new last f on w l = record {
    ready = l.ready;
    keeps = keeps_through _ _ _ _ w.keeps l.keeps;
    users = λ ks h. l.users ks (w.users ks h);
    kept = λ ks h row among. l.kept ks (w.users ks h) row among ∙ w.kept ks h row among;
    room = l.room ∙ w.room;
    rows = l.rows ∙ w.rows;
    gone = l.gone;
    walks = λ p is ks h.
        let one : step here.haystack.now here.longest p here.place (exploring here t new (f ∷ new.scratch.stack.frames)) ≡ exploring here t last (option_to_list on ++ last.scratch.stack.frames) =
        l.steps p (states_kept _ _ _ w.keeps p.states is) ks (w.users ks h) in
        walks_through _ _ _ _ _ _ _ (w.walks p is ks h) (1, one);
  }

-- no more edges are left than there are
pub edges_left_within : (states : List State) (visited_set : List Bool) → edges_left states visited_set ≤ sum_by (λ s. length (targets_of s)) states
edges_left_within [] visited_set = omega arith
edges_left_within (s ∷ states) [] = grind (arith, common_steps, sum_by-cons, (edges_left_within states))
edges_left_within (s ∷ states) (m ∷ visited_set) = grind (arith, common_steps, cases_Bool, sum_by-cons, (edges_left_within states visited_set))

-- nothing is left to explore, and the row is released
pub closes_by_closure : (here : Position) (t : Thread) (old new : WalkState) → CanClose here t old → cuts here.longest t.start old.scratch.first_match ≡ false →
    ClosesSome here t old new None → ClosesThread here t old (walk_state new.counted (releases t new.scratch) new.slots)
closes_by_closure here t old new can on w =
    let empty : new.scratch.stack.frames ≡ [] = w.gone refl in
    record {
      within_step = grind (arith, common_steps);
      keeps = grind arith;
      users = λ ks h. released _ _ _ (w.users ks h);
      kept = w.kept;
      walks = λ p is ks h below. subst (λ (st : List MachineThread). WalksHere here p (walking_at here old st) (walking_at here new (kept_by here new below)))
          (sym (grind (arith, common_steps, true≢false))) (walks_above _ _ _ _ _ _ _
          (subst (λ (fs : List Frame). WalksHere here p (walking_at here old (thread_of old.scratch.rows t ∷ [])) (exploring here t new fs)) empty (w.walks p is ks h)));
    }

-- a thread that was cut off released its row
pub closes_by_cut : (here : Position) (t : Thread) (old : WalkState) → CanClose here t old → cuts here.longest t.start old.scratch.first_match ≡ true →
    ClosesThread here t old (walk_state old.counted (releases t old.scratch) old.slots)
closes_by_cut here t old can cut =
    record {
      within_step = grind (arith, common_steps);
      keeps = grind arith;
      users = λ others used. released t.row (map row_of old.scratch.next.threads ++ others) old.scratch.rows used;
      kept = λ others used row h. refl;
      walks = grind (arith, true≢false);
    }
