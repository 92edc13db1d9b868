-- A transition searches a place for the Pike VM, for all rows of its registers; and a thread list has one transition.
use Rattle.bites_table.proofs.Library.{common_steps, option_or, option_map_or, nat_tests, State, Program, Configuration, at, state_at, Walking, ◌≡◌, ℕ, zero, suc, ◌+◌, ◌≤◌, Bool, true, false, cond, ◌||◌, List, [], ◌∷◌, ◌++◌, map, Option, Some, None, option_map, refl, sym, ap, ap₂, ◌∙◌, subst, arith, ◌&&◌, not, is_some, ◌==◌, slice_set, replicate, piece, Searching, Searches, started, thread_on, with_write, moved, threads_at}
use Rattle.std.specs.Prelude.{if◌then◌else◌, nat_le}
use Rattle.std.specs.List.{filter}
use Rattle.bites_spec.specs.Closure.{WalksTo}
use Rattle.bites_spec.specs.PikeVm as vm
use Rattle.bites_table.specs.Sources.{kept}
use Rattle.bites_table.proofs.Words.{leads_at, Thread, thread_with, on_row, Source, unwritten, row_of_register, write, written_by, threads_by, slots_from, row_at, thread_of, is_walked, cuts_off, starts_after, ThreadList, Transition, source_at, begun, IsTransition, starts_of, IsThreadMap, mapped}
use Rattle.bites_table.proofs.WalkLemmas.{walks_on, later, walks_later, one_end}

-- slots of sets that agree from a slot on
slots_alike : (i : ℕ) (s t : ℕ → Bool) (a : ℕ) (xs : List (Option ℕ)) → ((k : ℕ) → a ≤ k → s k ≡ t k) → slots_from i s a xs ≡ slots_from i t a xs
slots_alike i s t a [] same = refl
slots_alike i s t a (x ∷ xs) same = grind (arith, common_steps, (slots_alike i s t (suc a) xs))

-- nothing is written
pub none_written : (i a : ℕ) (xs : List (Option ℕ)) → slots_from i (λ k. false) a xs ≡ xs
none_written i a [] = refl
none_written i a (x ∷ xs) = ap (λ l. x ∷ l) (none_written i (suc a) xs)

one_written : (i : ℕ) (s : ℕ → Bool) (a : ℕ) (xs : List (Option ℕ)) (k slot : ℕ) → a + k ≡ slot →
    slots_from i (λ j. (j == slot) || s j) a xs ≡ slice_set (slots_from i s a xs) k (Some i)
one_written i s a [] k slot e = refl
one_written i s a (x ∷ xs) zero slot e = grind (arith, common_steps, slots_alike, nat_tests)
one_written i s a (x ∷ xs) (suc k) slot e = grind (arith, common_steps, slots_alike, nat_tests, (one_written i s (suc a) xs k slot))

pub write-at : (width place slot : ℕ) (registers : ℕ → List (Option ℕ)) (s : Source) →
    row_at width place registers (write slot s) ≡ slice_set (row_at width place registers s) slot (Some place)
write-at width place slot registers s = one_written place s.writes 0 (option_map_or registers s.register (replicate width None)) slot slot (omega arith)

-- threads with sources stand for threads of the Pike VM, where states lead alike
module _ (hay : List ℕ) (p : Program) (width i : ℕ) (registers : ℕ → List (Option ℕ)) (leads : State → List ℕ)
    (longest : Bool) (start : ℕ) (alike : (q : ℕ) → leads (state_at p.states q) ≡ leads_at hay i (state_at p.states q)) where
  abbrev row : Source → List (Option ℕ)
  row = row_at width i registers

  written_is : (st : State) (s : Source) → row (written_by st s) ≡ with_write st i (row s)
  written_is st s = grind (arith, common_steps, write-at)

  all_of : (s : Source) (slots : List (Option ℕ)) → row s ≡ slots → (cs : List Configuration) →
      map (thread_on start slots) cs ≡ map (thread_of start row) (map (thread_with s) (map (λ c. c.state) cs))
  all_of s slots e [] = refl
  all_of s slots e (c ∷ cs) = ap₂ ◌∷◌ (ap (λ l. thread_on start l c) (sym e)) (all_of s slots e cs)

  moved_is : (st : State) → leads st ≡ leads_at hay i st → (t : Thread Source) →
      moved hay longest i st (thread_of start row t) ≡ map (thread_of start row) ((threads_by (not longest) leads).moved st t)
  moved_is st same t = grind (arith, common_steps, all_of, written_is)

  -- threads that were started at one place stay, where one of them comes to the longest match
  all_stay : (ts : List (Thread Source)) → filter (λ (t : vm.Thread). nat_le t.start start) (map (thread_of start row) ts) ≡ map (thread_of start row) ts
  all_stay [] = refl
  all_stay (t ∷ ts) = grind (arith, common_steps, nat_tests, (all_stay ts))

  kept_is : (b : Bool) → longest ≡ b → (o : Option (Thread Source)) (ts : List (Thread Source)) →
      vm.kept hay b (option_map (thread_of start row) o) (map (thread_of start row) ts) ≡ map (thread_of start row) (kept (not b) o ts)
  kept_is v0 e v2 ts = grind (arith, common_steps, all_stay)

  pub stand_for : IsThreadMap p (threads_by (not longest) leads) (threads_at hay longest i) (thread_of start row)
  stand_for = grind (arith, common_steps, moved_is, kept_is)

-- rows of rows
rows_of : (start : ℕ) (f : Source → List (Option ℕ)) (g : ℕ → Source) (ts : List (Thread ℕ)) → map (thread_of start f) (map (on_row g) ts) ≡ map (thread_of start (λ r. f (g r))) ts
rows_of start f g [] = refl
rows_of start f g (t ∷ ts) = ap (λ l. thread_of start (λ r. f (g r)) t ∷ l) (rows_of start f g ts)

-- where the start is walked, for each kind of search
pub walked_is : (longest anchored starts : Bool) → is_walked (starts_of longest anchored starts) ≡ starts
walked_is longest anchored starts = grind (arith, common_steps)

after_is : (longest anchored found starts : Bool) → (longest ≡ true → anchored ≡ true) →
    starts_of longest anchored (starts && not (anchored || found)) ≡ starts_after found (starts_of longest anchored starts)
after_is longest anchored found starts one = grind (arith, common_steps)

cuts_is : (longest anchored starts : Bool) → cuts_off (starts_of longest anchored starts) ≡ not longest
cuts_is longest anchored starts = grind (arith, common_steps)

module _ (p : Program) (leads : State → List ℕ) (l : ThreadList) (t : Transition ThreadList) (is : IsTransition p leads l t)
    (hay : List ℕ) (width : ℕ) (anchored longest : Bool) (start : ℕ) (s : Searching) (registers : ℕ → List (Option ℕ))
    (alike : (q : ℕ) → leads (state_at p.states q) ≡ leads_at hay s.place (state_at p.states q))
    (threads : s.threads ≡ map (thread_of start registers) l.threads) (starts : starts_of longest anchored s.starts ≡ l.starts)
    (one : longest ≡ true → anchored ≡ true) (started_is : s.starts ≡ true → start ≡ (if longest then s.place else 0)) where
  abbrev here_row : Source → List (Option ℕ)
  here_row = row_at width s.place registers

  abbrev search_of : List ℕ → ℕ → List vm.Thread → Bool → Option (Thread Source) → Searching
  search_of seen looks threads starts hit = record {
    place = s.place + (piece hay s.place).len;
    threads = threads;
    starts = starts;
    best = option_or (option_map (thread_of start here_row) hit) s.best;
    visits = map (λ q. at q s.place) seen ++ s.visits;
    looks = looks + s.looks;
  }

  -- the search after the place
  abbrev pub searched_by : Searching
  searched_by =
      search_of t.seen t.looks (map (thread_of start (λ r. here_row (source_at t.moves r))) t.next.threads) (s.starts && not (anchored || is_some t.hit)) t.hit

  -- which walks the start where the transition says
  pub starts_on : starts_of longest anchored searched_by.starts ≡ t.next.starts
  starts_on = after_is longest anchored (is_some t.hit) s.starts one ∙ ap (starts_after (is_some t.hit)) starts ∙ sym is.starts

  abbrev first : vm.Thread
  first = started hay longest p width s.place

  abbrev left : Walking vm.Thread
  left = mapped (thread_of start here_row) is.last

  -- the threads and the start
  stack_on : (b : Bool) → (b ≡ true → start ≡ (if longest then s.place else 0)) → (ts : List (Thread ℕ)) →
      map (thread_of start here_row) (map (on_row row_of_register) ts ++ cond b (thread_with unwritten p.start ∷ []) []) ≡ map (thread_of start registers) ts ++ cond b (first ∷ []) []
  stack_on true same [] = ap₂ (λ (i : ℕ) (r : List (Option ℕ)). record { state = p.start; start = i; slots = r } ∷ []) (same refl) (none_written s.place 0 (replicate width None))
  stack_on false same [] = refl
  stack_on b same (t ∷ ts) = ap₂ ◌∷◌ (ap (λ (r : List (Option ℕ)). record { state = t.state; start = start; slots = r }) (none_written s.place 0 (registers t.row))) (stack_on b same ts)

  abbrev from : List vm.Thread → ℕ → Walking vm.Thread
  from stack looks = record { stack = stack; seen = []; next = []; first_match = None; looks = looks }

  begun_is : later p (threads_at hay longest s.place) s.looks (mapped (thread_of start here_row) (begun p l)) ≡ vm.begun hay longest p width s
  begun_is = grind (arith, common_steps, (stack_on s.starts started_is l.threads), walked_is)

  some_on : (o : Option (Thread Source)) → is_some (option_map (thread_of start here_row) o) ≡ is_some o
  some_on o = grind (arith, common_steps)

  -- one place of the Pike VM
  pub searches : Searches hay longest p width anchored s searched_by
  searches = record {
    last = later p (threads_at hay longest s.place) s.looks left;
    walks = rw begun_is at (walks_later p (threads_at hay longest s.place) s.looks (mapped (thread_of start here_row) (begun p l)) left
        (walks_on p (threads_by (not longest) leads) (threads_at hay longest s.place) (thread_of start here_row) (stand_for hay p width s.place registers leads longest start alike) (begun p l) is.last
        (subst (λ b. WalksTo (threads_by b leads) p (begun p l) is.last) (ap cuts_off (sym starts) ∙ cuts_is longest anchored s.starts) is.walks)));
    over = ap (map (thread_of start here_row)) is.over;
    is = grind (arith, common_steps, rows_of, some_on);
  }

-- what a walk leaves is known of each of its transitions
states_of : (m : List Source) (ts : List (Thread ℕ)) → map (λ (a : Thread Source). a.state) (map (on_row (source_at m)) ts) ≡ map (λ (a : Thread ℕ). a.state) ts
states_of m [] = refl
states_of m (t ∷ ts) = ap (λ l. t.state ∷ l) (states_of m ts)

sources_of : (m : List Source) (ts : List (Thread ℕ)) → map (λ (a : Thread Source). a.row) (map (on_row (source_at m)) ts) ≡ map (λ (a : Thread ℕ). source_at m a.row) ts
sources_of m [] = refl
sources_of m (t ∷ ts) = ap (λ l. source_at m t.row ∷ l) (sources_of m ts)

module _ (p : Program) (leads : State → List ℕ) (l : ThreadList) (t u : Transition ThreadList) (one : IsTransition p leads l t) (other : IsTransition p leads l u) where
  pub same_walk : one.last ≡ other.last
  same_walk = one_end p (threads_by (cuts_off l.starts) leads) (begun p l) one.last other.last one.walks one.over other.walks other.over

  same_hit : t.hit ≡ u.hit
  same_hit = sym one.hit ∙ ap (λ (w : Walking (Thread Source)). w.first_match) same_walk ∙ other.hit

  same_next : map (on_row (source_at t.moves)) t.next.threads ≡ map (on_row (source_at u.moves)) u.next.threads
  same_next = sym one.next ∙ ap (λ (w : Walking (Thread Source)). w.next) same_walk ∙ other.next

  pub is_one : (t.seen ≡ u.seen) × (t.looks ≡ u.looks) × (t.hit ≡ u.hit) × (t.next.starts ≡ u.next.starts)
      × (map (λ (a : Thread ℕ). a.state) t.next.threads ≡ map (λ (a : Thread ℕ). a.state) u.next.threads)
      × (map (λ (a : Thread ℕ). source_at t.moves a.row) t.next.threads ≡ map (λ (a : Thread ℕ). source_at u.moves a.row) u.next.threads)
  is_one = (
    sym one.seen ∙ ap (λ (w : Walking (Thread Source)). w.seen) same_walk ∙ other.seen,
    sym one.looks ∙ ap (λ (w : Walking (Thread Source)). w.looks) same_walk ∙ other.looks,
    same_hit,
    one.starts ∙ ap (λ o. starts_after (is_some o) l.starts) same_hit ∙ sym other.starts,
    sym (states_of t.moves t.next.threads) ∙ ap (map (λ (a : Thread Source). a.state)) same_next ∙ states_of u.moves u.next.threads,
    sym (sources_of t.moves t.next.threads) ∙ ap (map (λ (a : Thread Source). a.row)) same_next ∙ sources_of u.moves u.next.threads,
  )
