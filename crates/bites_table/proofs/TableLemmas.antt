-- A search by a table stays in step with that of the Pike VM.
use Rattle.bites_table.proofs.Library.{common_steps, add-zero, option_or, none-some, nat_tests, Among, State, Program, state_at, Searching, Searches, SearchedTo, piece_within, next_character, ◌≡◌, ℕ, zero, suc, ◌+◌, ◌<◌, ◌≤◌, Bool, true, false, List, [], ◌∷◌, map, length, Option, Some, None, option_map, refl, sym, ap, ◌∙◌, subst, arith, ◌||◌, ◌==◌, piece, character}
use Rattle.std.specs.Prelude.{if◌then◌else◌}
use Rattle.bites_spec.specs.PikeVm as vm
use Rattle.bites_table.proofs.Words.{kind_of, leads_by, leads_at, AreAlikeKinds, Classes, AreClasses, AreAlike, Thread, row_of_register, row_at, thread_of, ThreadList, Transition, IsTransition, source_at, Table, IsTable, list_at, with_list, TableSearch, Input, search_after, transition_at, table_step, is_empty, is_over, RunsTo, starts_of, IsAtOnePlace, noted_start, IsInStep, HasKind, Reached, Ended, passed}
use Rattle.bites_table.proofs.TransitionLemmas.{searched_by, searches, starts_on, none_written, walked_is}
use Rattle.bites_table.proofs.LeadLemmas.{leads_is}
use Rattle.bites_table.proofs.CharacterLemmas.{is_next_character}
use Rattle.bites_table.proofs.PieceKinds.{kind_before}

-- a search in step begins where the table's does
pub begins : (p : Program) (tab : Table) (x : Input) (a : TableSearch) → a.place ≡ x.start → x.start ≤ length x.hay →
    IsAtOnePlace x → (list_at tab a.list).threads ≡ [] → (list_at tab a.list).starts ≡ starts_of x.longest x.anchored true →
    a.best ≡ None → a.visits ≡ [] → a.looks ≡ 0 → HasKind p tab x a → Reached p tab x 0 a
begins p tab x a place within one threads starts best visits looks kind = grind (arith, common_steps)

-- the longest match is searched for where the start is walked: at the start alone
started_at : (p : Program) (x : Input) (n : ℕ) (s : Searching) → IsAtOnePlace x → SearchedTo x.hay x.longest p x.width x.anchored x.earliest x.start n s →
    s.starts ≡ true → noted_start x ≡ (if x.longest then s.place else 0)
started_at p x v2 s one searched walked = grind (arith, common_steps)

pub comes_back : (p : Program) (tab : Table) (x : Input) (n : ℕ) (s : Searching) (a : TableSearch) →
    IsAtOnePlace x → SearchedTo x.hay x.longest p x.width x.anchored x.earliest x.start n s → s.threads ≡ [] →
    s.place ≡ a.place → a.place ≤ length x.hay → (list_at tab a.list).threads ≡ [] → starts_of x.longest x.anchored s.starts ≡ (list_at tab a.list).starts →
    s.best ≡ a.best → s.visits ≡ a.visits → s.looks ≡ a.looks → HasKind p tab x a → Reached p tab x n a
comes_back p tab x n s a one searched none place within threads starts best visits looks kind = grind (arith, common_steps, started_at)

module _ (p : Program) (k : Classes) (classes : AreClasses p k) (tab : Table) (right : IsTable p k tab) (x : Input) (one : IsAtOnePlace x) where
  -- one place more
  pub record OnePlace (s : Searching) (b : TableSearch) : Type 0 where
    pub after : Searching
    pub searches : Searches x.hay x.longest p x.width x.anchored s after
    pub in_step : IsInStep tab x after b

  by_transition : (s : Searching) (a : TableSearch) → IsInStep tab x s a → HasKind p tab x a → (t : Transition ℕ) → transition_at k tab x a ≡ Some t →
      OnePlace s (search_after x t a)
  by_transition s a step kind t known = record {
    after = searched_by p here l u is x.hay x.width x.anchored x.longest (noted_start x) s a.registers alike step.threads step.starts one step.started;
    searches = searches p here l u is x.hay x.width x.anchored x.longest (noted_start x) s a.registers alike step.threads step.starts one step.started;
    in_step = grind (arith, common_steps, piece_within, starts_on);
  }
    where
      l : ThreadList
      l = list_at tab a.list

      u : Transition ThreadList
      u = with_list tab t

      here : State → List ℕ
      here = leads_by (list_at tab a.list).kind (k.member (k.class_of (next_character x.hay a.place)))

      is : IsTransition p here l u
      is = right.transition a.list (k.class_of (next_character x.hay a.place)) t known

      alike : (q : ℕ) → here (state_at p.states q) ≡ leads_at x.hay s.place (state_at p.states q)
      alike q = grind (arith, common_steps, is_next_character, leads_is)

  -- the table knows the transition
  known : (a b : TableSearch) (o : Option (Transition ℕ)) → transition_at k tab x a ≡ o → option_map (λ t. search_after x t a) o ≡ Some b →
      (t : Transition ℕ) × (transition_at k tab x a ≡ Some t) × (search_after x t a ≡ b)
  known a b o is e = grind (arith, none-some)

  pub one_place : (s : Searching) (a b : TableSearch) → IsInStep tab x s a → HasKind p tab x a → table_step k tab x a ≡ Some b → OnePlace s b
  one_place s a b step kind e = let t = known a b (transition_at k tab x a) refl e in subst (OnePlace s) t.2 (by_transition s a step kind t.0 t.1)

  -- the thread list after a character is one for it
  member_is : (o u : Option ℕ) → AreAlike p o u → (c : ℕ) → u ≡ Some c → (d : ℕ) × (o ≡ Some d) × AreAlikeKinds p (kind_of (Some d)) (kind_of u)
  member_is o u alike c e = grind arith

  some_character : (i : ℕ) → 0 < (piece x.hay i).len → next_character x.hay i ≡ Some (character (piece x.hay i))
  some_character i lt = grind (arith, common_steps, nat_tests)

  kind_on : (a b : TableSearch) → a.place ≤ length x.hay → 0 < (piece x.hay a.place).len → table_step k tab x a ≡ Some b → HasKind p tab x b
  kind_on a b within some e =
      let t = known a b (transition_at k tab x a) refl e in
      let c = character (piece x.hay a.place) in
      let d = member_is (k.member (k.class_of (next_character x.hay a.place))) (next_character x.hay a.place) (classes (next_character x.hay a.place) (is_next_character x.hay a.place)) c (some_character a.place some) in
      subst (HasKind p tab x) t.2
      (λ o q. right.kind a.list (k.class_of (next_character x.hay a.place)) t.0 t.1 d.0 d.1 o q ∙ d.2 o q
      ∙ ap (λ l. leads_by l o (state_at p.states q)) (sym (kind_before x.hay a.place within some)))

  pub rows_alike : (f g : ℕ → List (Option ℕ)) (ts : List (Thread ℕ)) → ((t : Thread ℕ) → Among ts t → f t.row ≡ g t.row) → map (thread_of (noted_start x) f) ts ≡ map (thread_of (noted_start x) g) ts
  rows_alike f g [] same = refl
  rows_alike f g (t ∷ ts) same = grind (arith, common_steps, (rows_alike f g ts))

  best_is : (t : Transition ℕ) (a : TableSearch) → t.hit ≡ None → (search_after x t a).best ≡ a.best
  best_is t a none = ap (λ o. option_or (option_map (thread_of (noted_start x) (row_at x.width a.place a.registers)) o) a.best) none

  over_alike : (i : ℕ) (a b : TableSearch) → a.list ≡ b.list → a.best ≡ b.best → is_over k tab x i a ≡ is_over k tab x i b
  over_alike i a b list best = grind (arith, common_steps)

  some_len : (n : ℕ) (b : Bool) → ((n == 0) || b) ≡ false → 0 < n
  some_len n b e = grind (arith, common_steps)

  bare : (registers : ℕ → List (Option ℕ)) (ts : List (Thread ℕ)) → vm.is_empty (map (thread_of (noted_start x) registers) ts) ≡ is_empty ts
  bare registers ts = grind (arith, common_steps)

  -- the search of the Pike VM is over where that by the table is
  over_is : (s t : Searching) (a b : TableSearch) → s.place ≡ a.place → IsInStep tab x t b →
      vm.is_over x.hay x.longest p x.width x.anchored x.earliest s.place t ≡ is_over k tab x a.place b
  over_is s t a b place step = grind (arith, common_steps, walked_is, bare)

  -- it goes on by the table
  goes_on : (n : ℕ) (a b : TableSearch) → Reached p tab x n a → table_step k tab x a ≡ Some b → is_over k tab x a.place b ≡ false → Reached p tab x (suc n) b
  goes_on n a b reached e goes =
      let on = one_place reached.search a b reached.in_step reached.kind e in record {
        one_place = one;
        search = on.after;
        searched = (reached.search, reached.searched, on.searches, over_is reached.search on.after a b reached.in_step.place on.in_step ∙ goes);
        in_step = on.in_step;
        kind = kind_on a b reached.in_step.within (some_len (piece x.hay a.place).len _ goes) e;
      }

  pub runs : (n m : ℕ) (a b : TableSearch) → Reached p tab x n a → RunsTo k tab x a m b → Reached p tab x (n + m) b
  runs n zero a b reached e = subst (λ m. Reached p tab x m b) (sym (add-zero n)) (subst (Reached p tab x n) e reached)
  runs n (suc m) a c reached (b, run, e, goes) = let on = goes_on (n + m) b c (runs n m a b reached run) e goes in subst (λ i. Reached p tab x i c) (let more : suc (n + m) ≡ n + suc m = omega arith in more) on

  pub passes : (n : ℕ) (a : TableSearch) (t : Transition ℕ) → Reached p tab x n a → transition_at k tab x a ≡ Some t → t.hit ≡ None →
      ((u : Thread ℕ) → Among (list_at tab t.next).threads u → source_at t.moves u.row ≡ row_of_register u.row) →
      is_over k tab x a.place (passed x t a) ≡ false → Reached p tab x (suc n) (passed x t a)
  passes n a t reached known none same goes =
      let on = goes_on n a (search_after x t a) reached (ap (option_map (λ c. search_after x c a)) known)
      (over_alike a.place (search_after x t a) (passed x t a) refl (best_is t a none) ∙ goes) in
      record { one_place = one; search = on.search; searched = on.searched; in_step = grind (arith, common_steps, best_is, rows_alike, none_written); kind = on.kind }

  pub ends : (n : ℕ) (a b : TableSearch) → Reached p tab x n a → table_step k tab x a ≡ Some b → is_over k tab x a.place b ≡ true → Ended p x b
  ends n a b reached e over =
      let on = one_place reached.search a b reached.in_step reached.kind e in record {
        search = on.after;
        searched = grind (arith, common_steps, over_is);
        best = on.in_step.best;
        visits = on.in_step.visits;
        looks = on.in_step.looks;
      }
