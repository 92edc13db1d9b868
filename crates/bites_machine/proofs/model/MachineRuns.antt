-- A run that was found without a walk keeps the bounds of a search.
use Rattle.bites_machine.proofs.Library.{◌≡◌, ℕ, ◌+◌, ◌<◌, ◌≤◌, true, List, [], ◌∷◌, length, Option, Some, None, sym, subst, ⊎_elim, arith, sum_by, sum_by-cons, places, Among, AllApart, Walk, Program, Configuration, at, state_at, IsWellFormed, leads, Run, first_run, IsBounded, ReadsVisits, all_are_starts, Among-places, inside_on}
use Rattle.bites_spec.specs.Run.{FirstRun}
use Rattle.bites_spec.specs.Counts.{IsWalked}
use Rattle.bites_spec.proofs.runs.RunLemmas.{first_run-FirstRun}
use Rattle.bites_spec.proofs.runs.PlaceLemmas.{edge_next, place_behind}
use Rattle.bites_machine.specs.Trace.{run_record}
use Rattle.bites_machine.proofs.model.MachineCounts.{visited_bounded}

module _ (p : Program) (hay : List ℕ) (well : IsWellFormed p) (i : ℕ) where
  first_is : (o : Option Run) → first_run p hay (places hay i) ≡ o → FirstRun p hay (places hay i) o
  first_is o e = subst (FirstRun p hay (places hay i)) e (first_run-FirstRun p hay well i (places hay i) (all_are_starts hay i))

  -- nothing that is read is missing, and no configuration comes twice
  pub run_apart : (o : Option Run) → first_run p hay (places hay i) ≡ o → AllApart (run_record p o).visits × ReadsVisits (run_record p o)
  run_apart None e = (tt, λ v h. absurd h)
  run_apart (Some x) e = ((first_is (Some x) e).1.simple, λ v h. absurd h)

  abbrev led : List Configuration → ℕ
  led ts = sum_by (λ u. length (leads p hay u)) ts

  some_among : {A : Type 0} (xs : List A) (x : A) → Among xs x → 1 ≤ length xs
  some_among [] x h = absurd h
  some_among (y ∷ xs) x h = omega arith

  -- each configuration of a walk but the first is led to
  led_to : (Ends : Configuration → Type 0) (s : Configuration) (r : List Configuration) → Walk (leads p hay) Ends s r → length (s ∷ r) ≤ 1 + led (s ∷ r)
  led_to Ends s [] walk = omega arith
  led_to Ends s (t ∷ r) walk = omega (arith, some_among (leads p hay s) t walk.0, led_to Ends t r walk.1, sum_by-cons (λ (u : Configuration). length (leads p hay u)) s (t ∷ r))

  -- a configuration that a search may visit
  abbrev IsVisitable : Configuration → Type 0
  IsVisitable u = (u.state < length p.states) × Among (places hay i) u.place

  -- and all of them lie where a search goes
  walk_inside : (Ends : Configuration → Type 0) (s : Configuration) (r : List Configuration) → Walk (leads p hay) Ends s r → IsVisitable s → (u : Configuration) → Among (s ∷ r) u → IsVisitable u
  walk_inside Ends s [] walk is u h = ⊎_elim (λ (e : s ≡ u). subst IsVisitable e is) (λ (no : ⊥). absurd no) h
  walk_inside Ends s (t ∷ r) walk is u h = ⊎_elim (λ (e : s ≡ u). subst IsVisitable e is) (λ later. walk_inside Ends t r walk.1 next u later) h
    where
      next : IsVisitable t
      next = (
        (inside_on p hay well s t (is.0, (Among-places hay i s.place is.1).1) walk.0).0,
        ⊎_elim (λ (e : t.place ≡ s.place). subst (Among (places hay i)) (sym e) is.1)
            (λ over. subst (Among (places hay i)) (sym over.1) (place_behind hay i s.place is.1 over.0)) (edge_next hay (state_at p.states s.state) s.place t walk.0),
      )

  pub run_walked : (x : Run) → first_run p hay (places hay i) ≡ Some x → IsWalked p hay i (places hay i) true (run_record p (Some x))
  run_walked x e = (bounded, (x, first.0.runs, first.0.from, λ t h. h))
    where
      first : FirstRun p hay (places hay i) (Some x)
      first = first_is (Some x) e

      inside : (u : Configuration) → Among (at p.start x.start ∷ x.configurations) u → IsVisitable u
      inside = walk_inside _ (at p.start x.start) x.configurations first.0.runs (well.start, first.0.from)

      bounded : IsBounded p hay i (run_record p (Some x))
      bounded =
          visited_bounded p hay i (run_record p (Some x)) first.1.simple (λ v h. absurd h) inside
          (omega (arith, led_to _ (at p.start x.start) x.configurations first.0.runs, some_among (places hay i) x.start first.0.from)) (omega arith)
