-- The run of the next match.
use Rattle.std.proofs.Common.{◌≡◌, ℕ, ◌+◌, Bool, true, false, cond, List, take, length, Option, Some, None, option_map, refl, sym, ap, ◌∙◌, subst, arith, eq-eqb, ne_eqb}
use Rattle.std.specs.Prelude.{is_some, unwrap_or, ◌==◌}
use Rattle.std.proofs.lemmas.Option.{same_Some}
use Rattle.std.proofs.lemmas.Bool.{and_from, and_right}
use Rattle.bites_spec.specs.Utf8.{step_len, places}
use Rattle.bites_spec.specs.Run.{Run, Answered, slots}
use Rattle.bites_spec.specs.Slots.{span_of_run}
use Rattle.bites_spec.specs.Spans.{is_empty_at, next_after}
use Rattle.bites_spec.specs.Regex.{Regex, IsCompiled, run_at}
use Rattle.bites_spec.specs.Captured.{Excerpt, excerpt, FindsMatch}
use Rattle.bites_spec.proofs.utf8.StartLemmas.{all_are_starts}
use Rattle.bites_spec.proofs.regex.RegexRuns.{run_at-lies}
use Rattle.bites_bytes.specs.NextMatch.{next_run, FindsNextRun}

module _ (r : Regex) (is : IsCompiled r) (hay : List ℕ) where
  -- the run of what is found
  pub run_of : (s : ℕ) (m : Excerpt) → FindsMatch r hay (places hay s) (Some m) →
      (x : Run) × (run_at r hay (places hay s) ≡ Some x) × (m ≡ excerpt hay (span_of_run x))
  run_of s m found = by (run_at r hay (places hay s)) refl found.span
    where
      by : (o : Option Run) → run_at r hay (places hay s) ≡ o → Some m ≡ option_map (excerpt hay) (option_map span_of_run o) →
          (x : Run) × (run_at r hay (places hay s) ≡ Some x) × (m ≡ excerpt hay (span_of_run x))
      by None e h = let never : Some m ≡ None = h in absurd (cc)
      by (Some x) e h = (x, e, same_Some m (excerpt hay (span_of_run x)) h)

  none_of : (s : ℕ) → FindsMatch r hay (places hay s) None → run_at r hay (places hay s) ≡ None
  none_of s found = by (run_at r hay (places hay s)) found.span
    where
      by : (o : Option Run) → None ≡ option_map (excerpt hay) (option_map span_of_run o) → o ≡ None
      by None h = refl
      by (Some x) h = let never : None ≡ Some (excerpt hay (span_of_run x)) = h in absurd (cc)

  next_by : (e : ℕ) (o : Option Run) → run_at r hay (places hay e) ≡ o → (b : Bool) → is_empty_at span_of_run e o ≡ b →
      next_run r hay (Some e) ≡ cond b (run_at r hay (places hay (e + step_len hay e))) o
  unfolding next_after
  next_by e o h b empty =
      ap (λ q. cond (is_empty_at span_of_run e q) (run_at r hay (places hay (e + step_len hay e))) q) h
      ∙ ap (λ t. cond t (run_at r hay (places hay (e + step_len hay e))) o) empty

  -- nothing is found
  pub next_none : (last : Option ℕ) (n : ℕ) (new : List (Option ℕ)) → FindsMatch r hay (places hay (unwrap_or last 0)) None →
      FindsNextRun r hay last None n new
  next_none None n new found = none_of 0 found
  next_none (Some e) n new found = next_by e None (none_of e found) false refl

  found_slots : (s : ℕ) (old new : List (Option ℕ)) → Answered r.program (run_at r hay (places hay s)) true old new → (x : Run) →
      run_at r hay (places hay s) ≡ Some x → new ≡ take (length old) (slots r.program x)
  found_slots s old new h x e = (subst (λ o. Answered r.program o true old new) e h).1

  -- the first match
  pub next_first : (m : Excerpt) (old new : List (Option ℕ)) → FindsMatch r hay (places hay 0) (Some m) →
      Answered r.program (run_at r hay (places hay 0)) true old new → FindsNextRun r hay None (Some m) (length old) new
  next_first m old new found h =
      let x = run_of 0 m found in (x.0, x.1, x.2, found_slots 0 old new h x.0 x.1)

  -- what is found from the end of the last match on, if it ends later
  pub next_here : (e : ℕ) (m : Excerpt) (old new : List (Option ℕ)) → FindsMatch r hay (places hay e) (Some m) →
      Answered r.program (run_at r hay (places hay e)) true old new → (m.span.end ≡ e → ⊥) → FindsNextRun r hay (Some e) (Some m) (length old) new
  next_here e m old new found h apart =
      let x = run_of e m found in
      let end = ap (λ (y : Excerpt). y.span.end) x.2 in
      let more : (x.0.end == e) ≡ false = ne_eqb x.0.end e (λ same. apart (end ∙ same)) in
      (x.0, next_by e (Some x.0) x.1 false (and_right (x.0.start == e) (x.0.end == e) more), x.2, found_slots e old new h x.0 x.1)

  -- what is found there and ends there is empty, and the next match is found one character later
  pub next_later : (e : ℕ) (m : Excerpt) → FindsMatch r hay (places hay e) (Some m) → m.span.end ≡ e →
      next_run r hay (Some e) ≡ run_at r hay (places hay (e + step_len hay e))
  next_later e m found ends =
      let x = run_of e m found in
      let lies = run_at-lies r is hay e _ (all_are_starts hay e) x.0 x.1 in
      let end : x.0.end ≡ e = sym (ap (λ (y : Excerpt). y.span.end) x.2) ∙ ends in
      let start : x.0.start ≡ e = omega (arith, lies.0, lies.1, end) in
      next_by e (Some x.0) x.1 true (and_from (x.0.start == e) (x.0.end == e) (eq-eqb x.0.start e start) (eq-eqb x.0.end e end))

  pub later_found : {M : Type 0} (f : M → Excerpt) (e step n : ℕ) (m : Excerpt) → FindsMatch r hay (places hay e) (Some m) → m.span.end ≡ e →
      step ≡ step_len hay e → (o : Option M) (old new : List (Option ℕ)) → FindsMatch r hay (places hay (e + step)) (option_map f o) →
      Answered r.program (run_at r hay (places hay (e + step))) (is_some o) old new → n ≡ length old → FindsNextRun r hay (Some e) (option_map f o) n new
  later_found f e step n m found ends is_step None old new later h same =
      next_later e m found ends ∙ ap (λ k. run_at r hay (places hay (e + k))) (sym is_step) ∙ none_of (e + step) later
  later_found f e step n m found ends is_step (Some y) old new later h same =
      let x = run_of (e + step) (f y) later in (
        x.0,
        next_later e m found ends ∙ ap (λ k. run_at r hay (places hay (e + k))) (sym is_step) ∙ x.1,
        x.2,
        found_slots (e + step) old new h x.0 x.1 ∙ ap (λ k. take k (slots r.program x.0)) (sym same),
      )
