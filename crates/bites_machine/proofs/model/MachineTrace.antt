-- Each thread of the machine has come by a walk through configurations that were visited, and has the slots of that walk.
use Rattle.bites_machine.proofs.Library.{common_steps, ◌≡◌, ℕ, ◌≤◌, Bool, true, List, [], ◌∷◌, ◌++◌, take, length, Option, None, refl, sym, ap, ◌∙◌, subst, inl, inr, ⊎_elim, ◌⊎◌, arith, replicate, if◌then◌else◌, filter, cases_Bool, Among, Walk, Program, Configuration, at, state_at, is_match, IsWellFormed, Run, leads, matches, IsRun, slots, Inside, inside_on, MachineThread as Thread, with_write, thread_on, kept, started, Among-append}
use Rattle.bites_machine.proofs.model.PathLemmas.{walk_on, walk_ends, walk_along, walk_as}
use Rattle.bites_machine.proofs.model.MachineWaiting.{all_written, run_writes, match_keeps}

pub Among-filter : {A : Type 0} (test : A → Bool) (xs : List A) (x : A) → Among (filter test xs) x → Among xs x
Among-filter test [] x h = h
Among-filter test (y ∷ xs) x h = grind (arith, common_steps, cases_Bool, (Among-filter test xs x))

-- what a match leaves was there before
pub Among-kept : (hay : List ℕ) (longest : Bool) (o : Option Thread) (ts : List Thread) (t : Thread) → Among (kept hay longest o ts) t → Among ts t
Among-kept hay longest g ts t h = grind (arith, common_steps, Among-filter)

-- the places where the search may begin
module _ (p : Program) (hay : List ℕ) (longest : Bool) (width : ℕ) (starts : List ℕ) where
  abbrev base : List (Option ℕ)
  base = replicate width None

  -- where a thread was started, as it notes it
  abbrev pub start_of : ℕ → ℕ
  start_of k = if longest then k else 0

  -- the walk by which a thread has come to its state at a place
  pub record Trace (visits : List Configuration) (i : ℕ) (t : Thread) : Type 0 where
    pub from : ℕ
    pub among : Among starts from
    pub configurations : List Configuration
    pub walk : Walk (leads p hay) (λ u. u ≡ at t.state i) (at p.start from) configurations
    pub was : (u : Configuration) → Among (at p.start from ∷ configurations) u → Among visits u ⊎ (at t.state i ≡ u)
    pub slots : all_written p base (at p.start from ∷ configurations) ≡ with_write (state_at p.states t.state) i t.slots
    pub started : t.start ≡ start_of from

  -- a run to a match, all whose configurations were visited, and whose slots a thread has
  pub record Found (visits : List Configuration) (end : ℕ) (t : Thread) : Type 0 where
    pub run : Run
    pub runs : IsRun p hay run.start run.configurations run.end
    pub among : Among starts run.start
    pub was : (u : Configuration) → Among (at p.start run.start ∷ run.configurations) u → Among visits u
    pub slots : t.slots ≡ take width (slots p run)
    pub started : t.start ≡ start_of run.start
    pub end_is : run.end ≡ end

  unfoldable pub trace_more : (visits more : List Configuration) (i : ℕ) (t : Thread) → ((u : Configuration) → Among visits u → Among more u) → Trace visits i t → Trace more i t
  trace_more visits more i t grow tr = grind (arith, common_steps)

  unfoldable pub found_more : (visits more : List Configuration) (end : ℕ) (t : Thread) → ((u : Configuration) → Among visits u → Among more u) → Found visits end t → Found more end t
  found_more visits more end t grow f = grind (arith, common_steps)

  -- a thread at the start
  unfoldable pub trace_start : (visits : List Configuration) (i : ℕ) → Among starts i → Trace visits i (started hay longest p width i)
  trace_start visits i among = grind (arith, common_steps)

  pub all_written-push : (slots : List (Option ℕ)) (r : List Configuration) (v : Configuration) →
      all_written p slots (r ++ v ∷ []) ≡ with_write (state_at p.states v.state) v.place (all_written p slots r)
  all_written-push slots [] v = refl
  all_written-push slots (s ∷ r) v = all_written-push (with_write (state_at p.states s.state) s.place slots) r v

  -- a thread goes on along an edge
  unfoldable pub trace_on : (visits : List Configuration) (i : ℕ) (t : Thread) (v : Configuration) → Among visits (at t.state i) → Among (leads p hay (at t.state i)) v → Trace visits i t →
      Trace visits v.place (thread_on t.start (with_write (state_at p.states t.state) i t.slots) v)
  trace_on visits i t v here edge tr = record {
    from = tr.from;
    among = tr.among;
    configurations = tr.configurations ++ v ∷ [];
    walk = walk_on p hay (at p.start tr.from) tr.configurations (at t.state i) v tr.walk edge;
    was = λ u h. ⊎_elim
        (λ before. ⊎_elim inl (λ (e : at t.state i ≡ u). inl (subst (λ (x : Configuration). Among visits x) e here)) (tr.was u before))
        (λ last. ⊎_elim (λ (e : v ≡ u). inr e) (λ (no : ⊥). absurd no) last)
        (Among-append (at p.start tr.from ∷ tr.configurations) (v ∷ []) u h);
    slots = all_written-push (with_write (state_at p.states p.start) tr.from base) tr.configurations v ∙ ap (with_write (state_at p.states v.state) v.place) tr.slots;
    started = tr.started;
  }

  -- a thread at a match that was visited has found a run
  unfoldable pub found_here : width ≤ p.slots → (visits : List Configuration) (i : ℕ) (t : Thread) → is_match (state_at p.states t.state) ≡ true → Among visits (at t.state i) →
      Trace visits i t → Found visits i t
  found_here fits visits i t found here tr = record {
    run = the_run;
    runs = walk_as (leads p hay) _ _ (λ u (e : u ≡ at t.state i). rw e (found, refl)) (at p.start tr.from) tr.configurations tr.walk;
    among = tr.among;
    was = λ u h. ⊎_elim (λ a. a) (λ (e : at t.state i ≡ u). subst (λ (x : Configuration). Among visits x) e here) (tr.was u h);
    slots = sym (match_keeps (state_at p.states t.state) i t.slots found) ∙ sym tr.slots
        ∙ run_writes p width the_run fits (ap (matches p) (walk_ends (leads p hay) _ (at p.start tr.from) tr.configurations tr.walk) ∙ found);
    started = tr.started;
    end_is = refl;
  }
    where
      the_run : Run
      the_run = record { start = tr.from; configurations = tr.configurations; end = i }

  -- the state of a thread is one of the program
  pub trace_inside : IsWellFormed p → ((k : ℕ) → Among starts k → k ≤ length hay) → (visits : List Configuration) (i : ℕ) (t : Thread) → Trace visits i t → Inside p hay (at t.state i)
  trace_inside well lie visits i t tr =
      subst (Inside p hay) (walk_ends (leads p hay) _ (at p.start tr.from) tr.configurations tr.walk)
      (walk_along (leads p hay) _ (Inside p hay) (inside_on p hay well) (at p.start tr.from) tr.configurations (well.start, lie tr.from tr.among) tr.walk)
