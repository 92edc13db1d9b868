-- The machine on lists goes one way: a walk has one end, and a search that is over has one. So a search that is traced has its visits.
use Rattle.bites_spec.specs.Closure as closure
use Rattle.bites_machine.proofs.Library.{common_steps, ◌≡◌, ℕ, zero, suc, ◌+◌, ◌-◌, ◌<◌, ◌≤◌, ⊎_elim, Bool, true, cond, List, [], ◌∷◌, sym, ap, ◌∙◌, true≢false, arith, ◌==◌, list_any, iterate, State, Program, Searching, Searches, SearchedTo, Searched, begun, after, is_over, cases_lt, length, false, is_some, left_in, Place, IsTraced, IsTracedSearch, visits_of}
use Rattle.bites_machine.proofs.model.MachineWalks.{iterate-add, stays}

-- a walk that is over stays, so it has one end
module _ {T : Type 0} (p : Program) (a : closure.Threads T) where
  one_end_by : (j k : ℕ) (w v u : closure.Walking T) → iterate (closure.step a p) j w ≡ v → v.stack ≡ [] → iterate (closure.step a p) (j + k) w ≡ u → v ≡ u
  one_end_by j k w v u e over f = sym (stays p a k v over) ∙ ap (iterate (closure.step a p) k) (sym e) ∙ sym (iterate-add (closure.step a p) j k w) ∙ f

  pub one_end : (w v u : closure.Walking T) → closure.WalksTo a p w v → v.stack ≡ [] → closure.WalksTo a p w u → u.stack ≡ [] → v ≡ u
  one_end w v u (j, e) over (k, f) ended =
      let back : (j k : ℕ) → j ≤ k → j + (k - j) ≡ k = λ j k le. omega arith in
      ⊎_elim (λ (lt : j < k). one_end_by j (k - j) w _ _ e over (ap (λ n. iterate (closure.step a p) n w) (back j k (omega arith)) ∙ f))
      (λ (le : k ≤ j). sym (one_end_by k (j - k) w _ _ f ended (ap (λ n. iterate (closure.step a p) n w) (back k j le) ∙ e))) (cases_lt j k)

module _ {T : Type 0} (a : closure.Threads T) (p : Program) where
  abbrev pub with_stack : closure.Walking T → List T → closure.Walking T
  with_stack w stack = record { stack = stack; seen = w.seen; next = w.next; first_match = w.first_match; looks = w.looks }

  -- a step does not read the stack beside the threads that it is given
  unread : (st : State) (t : T) (rest : List T) (w : closure.Walking T) → closure.visited a st t rest w ≡ closure.visited a st t rest (with_stack w rest)
  unfolding closure.visited
  unread h t rest w = grind (arith, common_steps)

  -- a walk that goes one step on
  pub one_turn : (begun w v : closure.Walking T) (t : T) (rest : List T) → closure.WalksTo a p begun w → w.stack ≡ t ∷ rest → v ≡ closure.stepped a p (t ∷ rest) (with_stack w rest) → closure.WalksTo a p begun v
  unfolding closure.stepped
  one_turn begun w v t rest (k, e) is to = (
    k + 1,
    iterate-add (closure.step a p) k 1 begun ∙ ap (closure.step a p) e ∙ ap (λ l. closure.stepped a p l w) is
        ∙ ap (λ u. cond (list_any (λ q. q == a.state t) w.seen) (closure.dropped rest w) u) (unread _ _ _ _) ∙ sym to,
  )

module _ (hay : List ℕ) (longest : Bool) (p : Program) (width : ℕ) (anchored : Bool) where
  pub searches_once : (s t u : Searching) → Searches hay longest p width anchored s t → Searches hay longest p width anchored s u → t ≡ u
  searches_once s t u a b = sym a.is ∙ ap (after hay longest p width anchored s) (one_end _ _ _ _ _ a.walks a.over b.walks b.over) ∙ b.is

  module _ (earliest : Bool) (start : ℕ) where
    reached_once : (n : ℕ) (s t : Searching) → SearchedTo hay longest p width anchored earliest start n s → SearchedTo hay longest p width anchored earliest start n t → s ≡ t
    reached_once zero s t a b = sym a ∙ b
    reached_once (suc n) s t (before, a, x, on) (other, b, y, off) = searches_once before s t x (rw (reached_once n before other a b) y)

    -- a search that is over goes no further
    no_further : (n m : ℕ) → n < m → (before t u : Searching) → SearchedTo hay longest p width anchored earliest start n before → Searches hay longest p width anchored before t →
        is_over hay longest p width anchored earliest before.place t ≡ true → SearchedTo hay longest p width anchored earliest start m u → ⊥
    no_further n zero lt before t u a x over b = omega arith
    no_further n (suc m) lt before t u a x over (other, b, y, on) =
        ⊎_elim (λ (less : n < m). no_further n m less before t other a x over b) (λ (le : m ≤ n).
        let same : n ≡ m = omega arith in
        let e : other ≡ before = reached_once _ _ _ (rw same b) a in
        let f : u ≡ t = searches_once _ _ _ (rw (← e) y) x in
        true≢false (sym over ∙ ap (λ (v : Searching). is_over hay longest p width anchored earliest before.place v) (sym f)
        ∙ ap (λ (v : Searching). is_over hay longest p width anchored earliest v.place u) (sym e) ∙ on)) (cases_lt n m)

    -- two searches that are over ended in the same state
    pub searched_once : (t u : Searching) → Searched hay longest p width anchored earliest start t → Searched hay longest p width anchored earliest start u → t ≡ u
    searched_once t u a b =
        ⊎_elim (λ (less : a.places < b.places). absurd (no_further _ _ less a.before t b.before a.searched a.last a.over b.searched)) (λ (other : b.places ≤ a.places). ⊎_elim
        (λ (more : b.places < a.places). absurd (no_further _ _ more b.before u a.before b.searched b.last b.over a.searched)) (λ (le : a.places ≤ b.places).
        let same : a.places ≡ b.places = omega arith in
        let e : b.before ≡ a.before = reached_once _ _ _ (rw same b.searched) a.searched in
        searches_once _ _ _ a.last (rw (← e) b.last)) (cases_lt b.places a.places)) (cases_lt a.places b.places)

module _ (hay : List ℕ) (longest : Bool) (p : Program) (width : ℕ) (anchored earliest : Bool) (start : ℕ) where
  traced_searched : (xs : List Place) (t : Searching) → IsTraced hay longest p width anchored earliest start false xs t → SearchedTo hay longest p width anchored earliest start (length xs) t
  traced_searched [] t to = to.1
  traced_searched (x ∷ xs) t (s, to, traces, on) = (s, traced_searched xs s to, traces.searches, on)

  all_searched : (xs : List Place) (t : Searching) → IsTraced hay longest p width anchored earliest start true xs t → Searched hay longest p width anchored earliest start t
  all_searched [] t to = absurd (true≢false to.0)
  all_searched (x ∷ xs) t (s, to, traces, over) = record { places = length xs; before = s; searched = traced_searched xs s to; last = traces.searches; over = over }

  traced_visits : (over : Bool) (xs : List Place) (t : Searching) → IsTraced hay longest p width anchored earliest start over xs t → t.visits ≡ visits_of xs
  traced_visits over [] t to = ap (λ (s : Searching). s.visits) (sym to.1)
  traced_visits over (x ∷ xs) t (s, to, traces, on) = grind (arith, common_steps, (traced_visits false xs s to))

-- a traced search has the answer, the slots and the visits of the search
pub traced_is_search : IsTracedSearch
traced_is_search p hay longest anchored earliest start answer old new walked xs t done len all =
    let same : done.last ≡ t = searched_once hay longest p (length old) anchored earliest start done.last t done.searched
    (rw len (all_searched hay longest p p.slots anchored earliest start xs t all)) in
    record {
      visits = sym done.visits ∙ ap (λ (s : Searching). s.visits) same ∙ traced_visits hay longest p p.slots anchored earliest start true xs t all;
      found = ap (λ (s : Searching). is_some s.best) (sym same) ∙ done.found;
      slots = ap (λ (s : Searching). left_in s.best old) (sym same) ∙ done.slots;
    }
