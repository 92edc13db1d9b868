-- The run that a search of a regex returns, its span and its slots.
use Rattle.std.proofs.Common.{◌≡◌, ℕ, zero, suc, ◌≤◌, List, [], ◌∷◌, map, length, Option, Some, None, IsSome, is_some, option_map, refl, sym, ap, ap₂, ◌∙◌, subst, inl, inr, ⊎_elim, arith}
use Rattle.std.proofs.lemmas.Option.{none-some, same_Some}
use Rattle.std.proofs.lemmas.List.{length-map}
use Rattle.std.proofs.lemmas.List.FromFn.{length-range_with_len}
use Rattle.std.specs.List.{range_with_len}
use Rattle.bites_spec.specs.Utf8.{places, AreStarts}
use Rattle.bites_spec.specs.Match.{Span, groups}
use Rattle.bites_spec.specs.Walks.{Among}
use Rattle.bites_spec.specs.Program.{at}
use Rattle.bites_spec.specs.Run.{Run, IsRun, slots}
use Rattle.bites_spec.specs.Slots.{group_in, span_of_run, answer_of}
use Rattle.bites_spec.specs.Spans.{LiesFrom, next_after, followed, some_after, successive_after, successive}
use Rattle.bites_spec.specs.Regex.{Regex, IsCompiled, run_at, span_at, slots_at}
use Rattle.bites_spec.specs.Captured.{AreGroups, SlotsAreGroups, FindsGroups, FindsSpan, SlotsAreFound}
use Rattle.bites_spec.specs.Iteration.{captured_by, captures_in, spans_in}
use Rattle.bites_spec.specs.Found.{Finds}
use Rattle.bites_spec.proofs.utf8.StartLemmas.{start_lies, all_are_starts}
use Rattle.bites_spec.proofs.runs.PlaceLemmas.{runs_within}
use Rattle.bites_spec.proofs.programs.BuiltLemmas.{run_is_parse}
use Rattle.bites_spec.proofs.programs.FoundLemmas.{group_0_is_span, same_groups}
use Rattle.bites_spec.proofs.parses.MarkPlaces.{parse_lies, group_lies}
use Rattle.bites_spec.proofs.regex.FoundSomeLemmas.{finds_some}
use Rattle.bites_spec.proofs.regex.AlikeLemmas.{chosen_run_lies}
use Rattle.bites_spec.proofs.regex.RegexLemmas.{run_is_found}
use Rattle.bites_spec.proofs.regex.PartCountLemmas.{static_len_participates}
use Rattle.bites_spec.proofs.iteration.SuccessiveLemmas.{mapped_successive}

-- a run of a regex's program that begins in the haystack
module _ (r : Regex) (is : IsCompiled r) (hay : List ℕ) (x : Run) (le : x.start ≤ length hay) (runs : IsRun r.program hay x.start x.configurations x.end) where
  -- group 0 in its slots is its span
  pub run-whole : group_in (slots r.program x) 0 ≡ Some (span_of_run x)
  run-whole = group_0_is_span r.tree r.program hay is.compilable is.built x runs

  pub run-AreGroups : AreGroups r hay (slots r.program x)
  run-AreGroups =
      let parse = run_is_parse r.tree r.program hay is.compilable is.built x.start x.end x.configurations runs in
      let lies = parse_lies hay r.tree x.start x.end parse.0 parse.1 in record {
        count = length-map (range_with_len 0 r.program.slots) _ ∙ length-range_with_len 0 r.program.slots;
        both = λ k. ap is_some (parse.2 k).0 ∙ both_ends (groups x.start x.end parse.0 k) ∙ sym (ap is_some (parse.2 k).1);
        whole = subst IsSome (sym run-whole) refl;
        lie = λ k g h.
            let inner = group_lies x.start x.end parse.0 k g lies
            (sym (same_groups r.tree r.program hay is.compilable is.built x parse.0 parse.2 k) ∙ h) in
            let end = runs_within r.program hay is.well_formed (at r.program.start x.start) x.configurations x.end (is.well_formed.start, le) runs in
            let inside = inner.2 in (omega arith, inner.1, omega arith);
        enough = λ n known. static_len_participates r.tree r.program hay is.compilable is.built n known x runs;
      }
    where
      both_ends : (o : Option Span) → is_some (option_map (λ s. s.start) o) ≡ is_some (option_map (λ s. s.end) o)
      both_ends None = refl
      both_ends (Some s) = refl

module _ (r : Regex) (is : IsCompiled r) (hay : List ℕ) where
  -- the run begins in the haystack
  abbrev pub Begins : Run → Type 0
  Begins x = (x.start ≤ length hay) × IsRun r.program hay x.start x.configurations x.end

  pub are_groups : (o : Option Run) → ((x : Run) → o ≡ Some x → Begins x) → (list : List (Option ℕ)) → option_map (slots r.program) o ≡ Some list → AreGroups r hay list
  are_groups None begins list e = absurd (none-some list e)
  are_groups (Some x) begins list e = let b = begins x refl in subst (AreGroups r hay) (same_Some _ list e) (run-AreGroups r is hay x b.0 b.1)

  -- a search from these starts
  module _ (s : ℕ) (ps : List ℕ) (are : AreStarts hay s ps) where
    pub run_at-lies : (x : Run) → run_at r hay ps ≡ Some x → LiesFrom (length hay) s (span_of_run x)
    run_at-lies x e = (chosen_run_lies r.program hay is.well_formed r.leftmost_longest s ps are x e).2

    run_at-begins : (x : Run) → run_at r hay ps ≡ Some x → Begins x
    run_at-begins x e =
        let lies = chosen_run_lies r.program hay is.well_formed r.leftmost_longest s ps are x e in
        ((start_lies hay s ps are x.start lies.0).1, lies.1)

    -- group 0 in the slots of the run is its span
    pub run_at-whole : (x : Run) → run_at r hay ps ≡ Some x → group_in (slots r.program x) 0 ≡ Some (span_of_run x)
    run_at-whole x e = let b = run_at-begins x e in run-whole r is hay x b.0 b.1

    run_finds : (o : Option Run) → run_at r hay ps ≡ o → Finds r.leftmost_longest r.tree hay ps (option_map (answer_of r.program) o)
    run_finds o e = subst (λ (p : Option Run). Finds r.leftmost_longest r.tree hay ps (option_map (answer_of r.program) p)) e (run_is_found r is hay s ps are)

    groups_by : (o : Option Run) → run_at r hay ps ≡ o → FindsGroups r hay ps (option_map (slots r.program) o)
    groups_by None e = finds_some r.leftmost_longest r.tree hay ps None (run_finds None e)
    groups_by (Some x) e = record {
      answer = answer_of r.program x;
      found = run_finds (Some x) e;
      in_slots = (run_at-whole x e, λ k. refl);
    }

    pub found_groups : FindsGroups r hay ps (slots_at r hay ps)
    found_groups = groups_by (run_at r hay ps) refl

    span_by : (o : Option Run) → run_at r hay ps ≡ o → FindsSpan r hay ps (option_map span_of_run o)
    span_by None e = finds_some r.leftmost_longest r.tree hay ps None (run_finds None e)
    span_by (Some x) e = record { answer = answer_of r.program x; found = run_finds (Some x) e; is_span = refl }

    pub found_span : FindsSpan r hay ps (span_at r hay ps)
    found_span = span_by (run_at r hay ps) refl

    pub span_at-lies : (g : Span) → span_at r hay ps ≡ Some g → LiesFrom (length hay) s g
    span_at-lies g e = by_run (run_at r hay ps) refl e
      where
        by_run : (o : Option Run) → run_at r hay ps ≡ o → option_map span_of_run o ≡ Some g → LiesFrom (length hay) s g
        by_run None is h = absurd (none-some g h)
        by_run (Some x) is h = subst (LiesFrom (length hay) s) (same_Some _ g h) (run_at-lies x is)

    pub run_at-AreGroups : (x : Run) → run_at r hay ps ≡ Some x → AreGroups r hay (slots r.program x)
    run_at-AreGroups x e = let b = run_at-begins x e in run-AreGroups r is hay x b.0 b.1

    slots_groups : (list : List (Option ℕ)) → slots_at r hay ps ≡ Some list → AreGroups r hay list
    slots_groups list e = are_groups (run_at r hay ps) run_at-begins list e

  -- the run of a search from a place on
  abbrev run_from : ℕ → Option Run
  run_from s = run_at r hay (places hay s)

  -- group 0 in the captured slots of each run is the run's span
  whole_of_all : (xs : List Run) → ((x : Run) → Among xs x → group_in (slots r.program x) 0 ≡ Some (span_of_run x)) →
      map (λ c. group_in c.slots 0) (map (captured_by r hay) xs) ≡ map (λ s. Some s) (map span_of_run xs)
  whole_of_all [] is = refl
  whole_of_all (x ∷ xs) is = ap₂ (λ a b. a ∷ b) (is x (inl refl)) (whole_of_all xs (λ y among. is y (inr among)))

  next_answer : (e : ℕ) (x : Run) → next_after span_of_run hay run_from e ≡ Some x → (s : ℕ) × (run_from s ≡ Some x)
  unfolding next_after
  next_answer e x h = grind arith

  followed_answers : (f : ℕ → List Run) (o : Option Run) → ((x : Run) → o ≡ Some x → (s : ℕ) × (run_from s ≡ Some x)) →
      ((e : ℕ) (x : Run) → Among (f e) x → (s : ℕ) × (run_from s ≡ Some x)) →
      (x : Run) → Among (followed span_of_run f o) x → (s : ℕ) × (run_from s ≡ Some x)
  followed_answers f None one more x among = absurd among
  followed_answers f (Some y) one more x among =
      ⊎_elim (λ (e : y ≡ x). one x (ap (λ z. Some z) e)) (λ later. more y.end x later) among

  some_answers : (n e : ℕ) (x : Run) → Among (some_after span_of_run hay run_from n e) x → (s : ℕ) × (run_from s ≡ Some x)
  unfolding some_after
  some_answers zero e x among = absurd among
  some_answers (suc n) e x among =
      followed_answers (some_after span_of_run hay run_from n) (next_after span_of_run hay run_from e)
      (next_answer e) (some_answers n) x among

  all_answers : (x : Run) → Among (successive span_of_run hay run_from) x → (s : ℕ) × (run_from s ≡ Some x)
  unfolding successive successive_after
  all_answers x among =
      followed_answers (some_after span_of_run hay run_from (length hay)) (run_from 0) (λ y e. (0, e)) (some_answers (length hay)) x among

  pub captures_have_spans : map (λ c. group_in c.slots 0) (captures_in r hay) ≡ map (λ s. Some s) (spans_in r hay)
  captures_have_spans =
      whole_of_all (successive span_of_run hay run_from)
      (λ x among. let answer = all_answers x among in run_at-whole answer.0 (places hay answer.0) (all_are_starts hay answer.0) x answer.1)
      ∙ ap (map (λ s. Some s)) (mapped_successive span_of_run span_of_run (λ s. s) (λ x. refl) hay run_from)

pub slots_are_found : SlotsAreFound
slots_are_found r is hay s ps are = (found_groups r is hay s ps are, found_span r is hay s ps are)

pub slots_are_groups : SlotsAreGroups
slots_are_groups r is hay s ps are list e = slots_groups r is hay s ps are list e
