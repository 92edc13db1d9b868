-- The runs of a tree's program are the parses of the tree, and their slots are its groups.
use Rattle.std.proofs.lemmas.Grind.{common_steps}
use Rattle.std.proofs.Common.{◌≡◌, ℕ, zero, suc, ◌+◌, ◌*◌, ◌<◌, ◌≤◌, cond, List, [], ◌∷◌, ◌++◌, Some, None, option_map, refl, sym, ap, ◌∙◌, subst, inl, inr, ⊎_elim, arith, ◌⊎◌, append-nil, eq-eqb}
use Rattle.std.specs.Option.{option_or}
use Rattle.bites_spec.specs.Walks.{Among, IsNew}
use Rattle.bites_spec.specs.Tree.{Tree, Trees, empty, char, class, look, repetition, group, sequence, alternation, no_tree, tree_and, groups_in, groups_in_all, captures_len, IsReduced, AllAreReduced}
use Rattle.bites_spec.specs.Match.{span, Mark, Parse, Matches, last_mark, groups}
use Rattle.bites_spec.specs.Program.{Program, Configuration, at, is_match, edges}
use Rattle.bites_spec.specs.Program as program
use Rattle.bites_spec.specs.Run.{run, last_write, Runs, IsRun, writes, written}
use Rattle.bites_spec.specs.Built.{Built, IsCompilable}
use Rattle.bites_spec.specs.Slots.{HasGroups}
use Rattle.bites_spec.proofs.parses.EventLemmas.{Event, opened, closed, writes_of, marks_of, Steps, Steps-Parse, Parse-Steps, Matches-Parse, Parse-Matches}
use Rattle.bites_spec.proofs.programs.PartLemmas.{HasForm-leaves, group-leaves}
use Rattle.bites_spec.proofs.programs.EnterLemmas.{HasForm-enters, group-enters}
use Rattle.bites_spec.proofs.programs.SlotLemmas.{Agree-group, agrees, no_mark, group_mark}
use Rattle.bites_spec.proofs.runs.ValueLemmas.{slot_known, slot_past, at_most_greatest, less_or_not}

pub Among-append : {A : Type 0} (xs ys : List A) (x : A) → Among (xs ++ ys) x → Among xs x ⊎ Among ys x
Among-append [] ys x h = inr h
Among-append (y ∷ xs) ys x h = ⊎_elim (λ (e : y ≡ x). inl (inl e)) (λ later. ⊎_elim (λ a. inl (inr a)) inr (Among-append xs ys x later)) h

mutual
  -- no group of a reduced tree has the number 0
  pub groups_positive : (t : Tree) → IsReduced t → (k : ℕ) → Among (groups_in t) k → 1 ≤ k
  groups_positive empty reduced k h = absurd h
  groups_positive (char c) reduced k h = absurd h
  groups_positive (class rs) reduced k h = absurd h
  groups_positive (look l) reduced k h = absurd h
  groups_positive (repetition min most greedy t) reduced k h = groups_positive t reduced.1 k h
  groups_positive (group m name t) reduced k h = ⊎_elim (λ (e : m ≡ k). subst (λ x. 1 ≤ x) e reduced.0) (λ later. groups_positive t reduced.1 k later) h
  groups_positive (sequence ts) reduced k h = all_positive ts reduced.1 k h
  groups_positive (alternation ts) reduced k h = all_positive ts reduced.1 k h

  all_positive : (ts : Trees) → AllAreReduced ts → (k : ℕ) → Among (groups_in_all ts) k → 1 ≤ k
  all_positive no_tree reduced k h = absurd h
  all_positive (tree_and t ts) reduced k h =
      ⊎_elim (λ a. groups_positive t reduced.0 k a) (λ b. all_positive ts reduced.1 k b) (Among-append (groups_in t) (groups_in_all ts) k h)

module _ (t : Tree) (p : Program) (hay : List ℕ) (fit : IsCompilable t) (built : Built t p) where
  unfoldable pub whole : ℕ → ℕ → List Event → List Event
  whole i j inner = opened 0 i ∷ (inner ++ closed 0 i j ∷ [])

  pub no_zero : IsNew 0 (groups_in t)
  no_zero h = absurd (omega (arith, groups_positive t fit.reduced 0 h))

  whole_groups : (i j : ℕ) (inner : List Event) → Steps hay t i j inner → (k : ℕ) →
      last_mark (marks_of (whole i j inner)) k ≡ groups i j (marks_of inner) k
  unfolding whole
  whole_groups i j inner steps zero =
      group_mark hay 0 i j inner 0 ∙ ap (λ b. option_or (cond b (Some (span i j)) None) (last_mark (marks_of inner) 0)) (eq-eqb 0 0 refl)
  whole_groups i j inner steps (suc k) = grind (arith, common_steps, group_mark, marks_of)

  -- a number past the groups of the tree has no group
  no_group : (i j : ℕ) (inner : List Event) → Steps hay t i j inner → (k : ℕ) → captures_len t ≤ k → groups i j (marks_of inner) k ≡ None
  no_group i j inner steps zero le = absurd (omega (arith, le))
  no_group i j inner steps (suc k) le =
      no_mark hay t (suc k) (λ h. let least = at_most_greatest (groups_in t) (suc k) h in omega (arith, le, least)) i j inner steps

  -- the groups are what the run last wrote to their slots
  has_written : (i j : ℕ) (r : List Configuration) (inner : List Event) → Steps hay t i j inner → writes p (at p.start i) r ≡ writes_of (whole i j inner) → (k : ℕ) →
      (written p (run i r j) (2 * k) ≡ option_map (λ s. s.start) (groups i j (marks_of inner) k))
      × (written p (run i r j) (2 * k + 1) ≡ option_map (λ s. s.end) (groups i j (marks_of inner) k))
  unfolding whole
  has_written i j r inner steps same k =
      let agree = Agree-group hay 0 i j inner (no_mark hay t 0 no_zero i j inner steps) (λ q. agrees hay t fit.numbers i j inner steps q) k in (
        ap (λ ws. last_write ws (2 * k)) same ∙ agree.start ∙ ap (option_map (λ s. s.start)) (whole_groups i j inner steps k),
        ap (λ ws. last_write ws (2 * k + 1)) same ∙ agree.end ∙ ap (option_map (λ s. s.end)) (whole_groups i j inner steps k),
      )

  pub has_groups : (i j : ℕ) (r : List Configuration) (inner : List Event) → Steps hay t i j inner → writes p (at p.start i) r ≡ writes_of (whole i j inner) →
      HasGroups p (run i r j) (marks_of inner)
  has_groups i j r inner steps same k =
      ⊎_elim
      (λ (lt : k < built.groups).
      let h = has_written i j r inner steps same k in (
        slot_known p (run i r j) (2 * k) (omega (arith, lt, room)) ∙ h.0,
        slot_known p (run i r j) (2 * k + 1) (omega (arith, lt, room)) ∙ h.1,
      ))
      (λ (le : built.groups ≤ k).
      let none = no_group i j inner steps k (omega (arith, le, built.room)) in (
        slot_past p (run i r j) (2 * k) (omega (arith, le, room)) ∙ sym (ap (option_map (λ s. s.start)) none),
        slot_past p (run i r j) (2 * k + 1) (omega (arith, le, room)) ∙ sym (ap (option_map (λ s. s.end)) none),
      ))
      (less_or_not k built.groups)
    where
      room : p.slots ≡ 2 * built.groups
      room = built.slots

  -- a run that is at the match ends there
  ends_there : (l j : ℕ) (rest : List Configuration) → Runs p hay (at built.last l) rest j → (l ≡ j) × (rest ≡ [])
  ends_there l j [] runs = (runs.1, refl)
  ends_there l j (s ∷ rest) runs = absurd (subst (λ (st : program.State). Among (edges hay st l) s) built.ends runs.0)

  -- each run is a parse whose groups are in its slots
  pub run_is_parse : (i j : ℕ) (r : List Configuration) → IsRun p hay i r j → (ms : List Mark) × Parse hay t i j ms × HasGroups p (run i r j) ms
  unfolding whole
  run_is_parse i j r runs =
      let x = group-leaves p hay 0 None t (HasForm-leaves p hay t fit.reduced) p.start built.last built.used built.form i j r runs in
      let over = ends_there x.l j x.rest x.runs in
      let inner = x.parse.0 in
      let steps : Steps hay t i j inner = subst (λ l. Steps hay t i l inner) over.0 x.parse.1 in
      let same : writes p (at p.start i) r ≡ writes_of (whole i j inner) =
      x.same ∙ ap (λ rest. writes_of x.events ++ writes p (at built.last x.l) rest) over.1 ∙ append-nil (writes_of x.events)
      ∙ ap writes_of (x.parse.2 ∙ ap (λ l. whole i l inner) over.0) in
      (marks_of inner, Steps-Parse hay t i j inner steps, has_groups i j r inner steps same)

  -- each parse is a run whose slots hold its groups
  pub parse_is_run : (i j : ℕ) (ms : List Mark) → Parse hay t i j ms → (r : List Configuration) × IsRun p hay i r j × HasGroups p (run i r j) ms
  unfolding whole
  parse_is_run i j ms parse =
      let marked = Parse-Steps hay t i j ms parse in
      let inner = marked.0 in
      let x = group-enters p hay 0 None t (HasForm-enters p hay t fit.reduced) p.start built.last built.used built.form i j (whole i j inner)
      (inner, marked.1, refl) j [] (ap is_match built.ends, refl) in (
        x.configurations,
        x.runs,
        subst (λ ms. HasGroups p (run i x.configurations j) ms) marked.2
            (has_groups i j x.configurations inner marked.1 (x.same ∙ append-nil (writes_of (whole i j inner)))),
      )

  -- The tree matches from i to j if the program has a run from i to j, and conversely.
  pub run_is_match : (i j : ℕ) (r : List Configuration) → IsRun p hay i r j → Matches hay t i j
  run_is_match i j r runs = let x = run_is_parse i j r runs in Parse-Matches hay t i j x.0 x.1

  pub match_is_run : (i j : ℕ) → Matches hay t i j → (r : List Configuration) × IsRun p hay i r j
  match_is_run i j h = let m = Matches-Parse hay t i j h in let x = parse_is_run i j m.0 m.1 in (x.0, x.1)
