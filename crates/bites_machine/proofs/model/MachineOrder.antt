-- In a search for the longest run the threads are in the order of their starts, and none started after the best.
use Rattle.bites_machine.proofs.Library.{common_steps, ◌≡◌, ℕ, ◌≤◌, Bool, true, false, cond, List, [], ◌∷◌, ◌++◌, Option, Some, None, refl, sym, ◌∙◌, subst, inl, inr, ⊎_elim, ◌⊎◌, arith, leb-true, nat_le, filter, option_or, cases_Bool, append-nil, append_assoc, Among, Among-left, Among-right, Program, Configuration, at, state_at, MachineThread as Thread, Walking, Searching, moved, started, begun, Searches, at_start, none-some, Among-append, Among-map, same_Some, option_or_cases}
use Rattle.bites_machine.proofs.model.PathLemmas.{walk_ends, walk_forward}
use Rattle.bites_machine.proofs.model.MachineWalks.{Keeps, walk_keeps}
use Rattle.bites_machine.proofs.model.MachineTrace.{Trace, Among-filter}
use Rattle.bites_machine.proofs.model.MachineSearch.{AreTraced}

-- none of these was started later
abbrev pub AreUpTo : ℕ → List Thread → Type 0
AreUpTo c ts = (t : Thread) → Among ts t → t.start ≤ c

-- the threads are in the order of their starts, and none was started earlier than this
abbrev pub AreSorted : ℕ → List Thread → Type 0
AreSorted c [] = Unit {0}
AreSorted c (t ∷ ts) = (c ≤ t.start) × AreSorted t.start ts

sorted_from : (a b : ℕ) (ts : List Thread) → a ≤ b → AreSorted b ts → AreSorted a ts
sorted_from a b [] le sorted = tt
sorted_from a b (t ∷ ts) le sorted = (omega (arith, sorted.0), sorted.1)

sorted_filter : (test : Thread → Bool) (c : ℕ) (ts : List Thread) → AreSorted c ts → AreSorted c (filter test ts)
sorted_filter test c [] sorted = tt
sorted_filter test c (t ∷ ts) sorted = grind (arith, common_steps, cases_Bool, sorted_from, (sorted_filter test t.start ts))

sorted_push : (c : ℕ) (ts : List Thread) (t : Thread) → AreSorted c ts → AreUpTo t.start ts → c ≤ t.start → AreSorted c (ts ++ t ∷ [])
sorted_push c [] t sorted upto le = (le, tt)
sorted_push c (x ∷ ts) t sorted upto le = (sorted.0, sorted_push x.start ts t sorted.1 (λ u h. upto u (inr h)) (upto x (inl refl)))

-- threads with the start of one take its place, and of those after it some are left
sorted_on : (t : Thread) (on rest : List Thread) → ((u : Thread) → Among on u → u.start ≡ t.start) → (c : ℕ) → c ≤ t.start →
    AreSorted t.start rest → AreSorted c (on ++ rest)
sorted_on t [] rest same c le sorted = sorted_from c t.start rest le sorted
sorted_on t (u ∷ on) rest same c le sorted =
    let e = same u (inl refl) in
    (omega (arith, le, e), sorted_on t on rest (λ v h. same v (inr h)) u.start (omega (arith, e)) sorted)

sorted_for : (before : List Thread) (t : Thread) (on rest left : List Thread) → ((u : Thread) → Among on u → u.start ≡ t.start) →
    ((c : ℕ) → AreSorted c rest → AreSorted c left) → (c : ℕ) → AreSorted c (before ++ t ∷ rest) → AreSorted c (before ++ (on ++ left))
sorted_for [] t on rest left same some c sorted = sorted_on t on left same c sorted.0 (some t.start sorted.1)
sorted_for (b ∷ before) t on rest left same some c sorted = (sorted.0, sorted_for before t on rest left same some b.start sorted.1)

-- a thread was started no earlier than those before it
sorted_low : (c : ℕ) (ts : List Thread) (t : Thread) → AreSorted c ts → Among ts t → c ≤ t.start
sorted_low c [] t sorted h = absurd h
sorted_low c (x ∷ ts) t sorted h = grind (arith, common_steps, (sorted_low x.start ts t))

sorted_upto : (c : ℕ) (before : List Thread) (t : Thread) (rest : List Thread) → AreSorted c (before ++ t ∷ rest) → AreUpTo t.start before
sorted_upto c [] t rest sorted u h = absurd h
sorted_upto c (b ∷ before) t rest sorted u h =
    ⊎_elim (λ (e : b ≡ u). rw (← e) (sorted_low b.start (before ++ t ∷ rest) t sorted.1 (Among-right before _ t (inl refl))))
    (sorted_upto b.start before t rest sorted.1 u) h

filter_upto : (c : ℕ) (xs : List Thread) → AreUpTo c (filter (λ t. nat_le t.start c) xs)
filter_upto c [] t h = absurd h
filter_upto c (x ∷ xs) t h = grind (arith, common_steps, leb-true, cases_Bool, (filter_upto c xs t))

-- a thread was started at its place or before
trace_before : (p : Program) (hay : List ℕ) (width : ℕ) (starts : List ℕ) (visits : List Configuration) (i : ℕ) (t : Thread) → Trace p hay true width starts visits i t → t.start ≤ i
trace_before p hay width starts visits i t tr = grind (arith, common_steps, walk_ends, walk_forward)

module _ (p : Program) (hay : List ℕ) (width : ℕ) (fits : width ≤ p.slots) (starts : List ℕ) where
  module _ (i : ℕ) (best : Option Thread) where
    -- those that took the piece, and after them those that are left, are in order
    pub record IsOrdered (w : Walking) : Type 0 where
      pub sorted : AreSorted 0 (w.next ++ w.stack)
      pub by_hit : (h : Thread) → w.first_match ≡ Some h → AreUpTo h.start (w.next ++ w.stack)
      pub by_best : (b : Thread) → best ≡ Some b → AreUpTo b.start (w.next ++ w.stack)
      pub hit_by_best : (b : Thread) → best ≡ Some b → (h : Thread) → w.first_match ≡ Some h → h.start ≤ b.start

    module _ (t : Thread) (rest : List Thread) (w : Walking) (is : w.stack ≡ t ∷ rest) (now : IsOrdered w) where
      sorted_now : AreSorted 0 (w.next ++ t ∷ rest)
      sorted_now = rw is at now.sorted

      upto_now : (c : ℕ) → AreUpTo c (w.next ++ w.stack) → AreUpTo c (w.next ++ t ∷ rest)
      upto_now c upto = rw is at upto

      -- where the thread goes, with its start
      abbrev on : List Thread
      on = moved hay true i (state_at p.states t.state) t

      on_start : (u : Thread) → Among on u → u.start ≡ t.start
      on_start u h = grind (arith, common_steps, Among-map)

      -- threads with its start take the place of the first of the stack
      goes : (x : Walking) (us : List Thread) → ((u : Thread) → Among us u → u.start ≡ t.start) →
          w.next ++ (us ++ rest) ≡ x.next ++ x.stack → w.first_match ≡ x.first_match → IsOrdered x
      goes x us same all hit = record {
        sorted = subst (AreSorted 0) all (sorted_for w.next t us rest rest same (λ c sorted. sorted) 0 sorted_now);
        by_hit = λ h e. upto h.start (now.by_hit h (hit ∙ e));
        by_best = λ b e. upto b.start (now.by_best b e);
        hit_by_best = λ b e h f. now.hit_by_best b e h (hit ∙ f);
      }
        where
          upto : (c : ℕ) → AreUpTo c (w.next ++ w.stack) → AreUpTo c (x.next ++ x.stack)
          upto c was u h =
              let old = upto_now c was in
              ⊎_elim (λ a. old u (Among-left w.next _ u a))
              (λ a. ⊎_elim (λ b. let e = same u b in let le = old t (Among-right w.next _ t (inl refl)) in omega arith)
              (λ b. old u (Among-right w.next _ u (inr b))) (Among-append us rest u a))
              (Among-append w.next (us ++ rest) u (subst (λ (l : List Thread). Among l u) (sym all) h))

      -- the first match: the one that was there, or else the thread
      hit_is : (o : Option Thread) → (h : Thread) × (option_or o (Some t) ≡ Some h) × ((o ≡ Some h) ⊎ (t ≡ h))
      hit_is None = (t, refl, inr refl)
      hit_is (Some x) = (x, refl, inl refl)

      matches : (x : Walking) (h : Thread) → (w.first_match ≡ Some h) ⊎ (t ≡ h) → x.next ≡ w.next →
          x.stack ≡ filter (λ u. nat_le u.start h.start) rest → x.first_match ≡ Some h → IsOrdered x
      matches x h from next stack hit = record {
        sorted = rw (next, stack) (sorted_for w.next t [] rest _ (λ u a. absurd a) (λ c sorted. sorted_filter _ c rest sorted) 0 sorted_now);
        by_hit = λ g e. rw (← same_Some h g (sym hit ∙ e), next, stack)
            (λ u a. ⊎_elim (λ b. next_upto u b) (filter_upto h.start rest u) (Among-append w.next _ u a));
        by_best = λ b e. rw (next, stack) (λ u a. ⊎_elim (λ y. upto_now b.start (now.by_best b e) u (Among-left w.next _ u y))
            (λ y. upto_now b.start (now.by_best b e) u (Among-right w.next _ u (inr (Among-filter _ rest u y)))) (Among-append w.next _ u a));
        hit_by_best = λ b e g f. rw (← same_Some h g (sym hit ∙ f)) (⊎_elim (now.hit_by_best b e h)
            (λ (same : t ≡ h). rw (← same) (upto_now b.start (now.by_best b e) t (Among-right w.next _ t (inl refl)))) from);
      }
        where
          next_upto : AreUpTo h.start w.next
          next_upto u a =
              ⊎_elim (λ (e : w.first_match ≡ Some h). now.by_hit h e u (Among-left w.next _ u a))
              (λ (same : t ≡ h). rw (← same) (sorted_upto 0 w.next t rest sorted_now u a)) from

    pub ordered_keeps : Keeps hay true i p IsOrdered
    ordered_keeps = record {
      on_seen = λ t rest w is was now. goes t rest w is now _ [] (λ u a. absurd a) refl refl;
      on_match = λ t rest w is new found now. let a = hit_is t rest w is now w.first_match in rw a.1 (matches t rest w is now _ a.0 a.2 refl refl refl);
      on_taken = λ t rest w is new none one over now.
          goes t rest w is now _ (on t rest w is now) (on_start t rest w is now) (sym (append_assoc w.next (on t rest w is now) rest)) refl;
      on_gone = λ t rest w is new none beside now. goes t rest w is now _ (on t rest w is now) (on_start t rest w is now) refl refl;
    }

  -- the threads of a search in the order of their starts
  pub record AreOrdered (s : Searching) : Type 0 where
    pub sorted : AreSorted 0 s.threads
    pub by_best : (b : Thread) → s.best ≡ Some b → AreUpTo b.start s.threads

  pub ordered_start : (start : ℕ) → AreOrdered (at_start start)
  ordered_start start = record { sorted = tt; by_best = λ b e t h. absurd h }

  begun_ordered : (s : Searching) → (s.starts ≡ true → s.best ≡ None) → AreTraced p hay true width starts fits s → AreOrdered s → IsOrdered s.place s.best (begun hay true p width s)
  begun_ordered s none traced now = record {
    sorted = with_start s.starts;
    by_hit = λ h e. absurd (none-some h e);
    by_best = λ b e u a. now.by_best b e u (of_threads s.starts none u b e a);
    hit_by_best = λ b e h x. absurd (none-some h x);
  }
    where
      with_start : (b : Bool) → AreSorted 0 (s.threads ++ cond b (started hay true p width s.place ∷ []) [])
      with_start false = rw append-nil now.sorted
      with_start true = sorted_push 0 s.threads _ now.sorted (λ u h. trace_before _ _ _ _ _ _ u (traced.threads u h)) (omega arith)

      of_threads : (a : Bool) → (a ≡ true → s.best ≡ None) → (u b : Thread) → s.best ≡ Some b →
          Among (s.threads ++ cond a (started hay true p width s.place ∷ []) []) u → Among s.threads u
      of_threads true none u b e a = absurd (none-some b (sym (none refl) ∙ e))
      of_threads false none u b e a = rw append-nil at a

  -- one place more
  module _ (anchored : Bool) (s t : Searching) (none : s.starts ≡ true → s.best ≡ None) (traced : AreTraced p hay true width starts fits s) (now : AreOrdered s)
      (place : Searches hay true p width anchored s t) where
    pub place_ordered : IsOrdered s.place s.best place.last
    place_ordered =
        walk_keeps hay true s.place p (IsOrdered s.place s.best) (ordered_keeps s.place s.best) (begun hay true p width s) place.last place.walks
        (begun_ordered s none traced now)

    pub ordered_on : AreOrdered t
    ordered_on = subst AreOrdered place.is record {
      sorted = rw (place.over, append-nil) at place_ordered.sorted;
      by_best = λ b e u h. let a = Among-left place.last.next place.last.stack u h in
          ⊎_elim (λ here. place_ordered.by_hit b here u a) (λ before. place_ordered.by_best b before.1 u a) (option_or_cases _ _ _ e);
    }
