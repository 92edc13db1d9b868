-- Iterators over matches, step by step.
use Rattle.std.proofs.Common.{◌≡◌, ℕ, ◌+◌, Bool, true, false, cond, List, [], ◌∷◌, ◌++◌, map, length, take, drop, Option, Some, None, option_map, refl, sym, ap, ap₂, ◌∙◌, subst, arith}
use Rattle.std.specs.Prelude.{unwrap_or, is_some}
use Rattle.std.proofs.lemmas.List.{take_all}
use Rattle.bites_spec.specs.Utf8.{step_len, places}
use Rattle.bites_spec.specs.Run.{Run, slots}
use Rattle.bites_spec.specs.Slots.{group_in, span_of_run}
use Rattle.bites_spec.specs.Spans.{IsNextAfter, is_empty_at, next_after, followed, successive_after, successive, LiesFrom}
use Rattle.bites_spec.specs.Regex.{Regex, IsCompiled, run_at}
use Rattle.bites_spec.specs.Captured.{Excerpt, captured, AreGroups}
use Rattle.bites_spec.specs.Iteration.{spans_after, captured_by, captures_after}
use Rattle.bites_bytes.specs.Calls.{FindsNext, ReadsNext}
use Rattle.bites_spec.proofs.utf8.StartLemmas.{all_are_starts}
use Rattle.bites_spec.proofs.regex.RegexRuns.{run_at-whole, run_at-lies, run_at-AreGroups}
use Rattle.bites_spec.proofs.iteration.SpanLemmas.{next_lies}
use Rattle.bites_spec.proofs.iteration.SuccessiveLemmas.{next_after-IsNextAfter, goes_on, mapped_after, mapped_successive}
use Rattle.bites_bytes.specs.NextMatch.{next_run, FindsNextRun}
use Rattle.bites_bytes.specs.Matched.{excerpt_of}
use Rattle.bites_bytes.specs.Matches.{IsSameSearch, Moves, captures_to_come, CapturesCome}
use Rattle.bites_bytes.specs.declared.bytes.matched.Match.{Match}
use Rattle.bites_bytes.specs.declared.bytes.matches.Cursor.{Cursor}
use Rattle.bites_bytes.proofs.SlotLemmas.{length-slots, written_over}

module _ (r : Regex) (is : IsCompiled r) (hay : List ℕ) where
  -- a search from some place returns the next run
  pub next_place : (last : Option ℕ) (x : Run) → next_run r hay last ≡ Some x → (s : ℕ) × (run_at r hay (places hay s) ≡ Some x)
  unfolding next_after
  next_place None x h = (0, h)
  next_place (Some e) x h = chosen (is_empty_at span_of_run e (run_at r hay (places hay e))) h
    where
      chosen : (b : Bool) → cond b (run_at r hay (places hay (e + step_len hay e))) (run_at r hay (places hay e)) ≡ Some x → (s : ℕ) × (run_at r hay (places hay s) ≡ Some x)
      chosen true h = (e + step_len hay e, h)
      chosen false h = (e, h)

  pub next_lies_there : (last : Option ℕ) (x : Run) → next_run r hay last ≡ Some x → LiesFrom (length hay) (unwrap_or last 0) (span_of_run x)
  next_lies_there None x h = run_at-lies r is hay 0 _ (all_are_starts hay 0) x h
  next_lies_there (Some e) x h =
      (next_lies span_of_run hay (λ s o. run_at r hay (places hay s) ≡ o) (λ s y same. run_at-lies r is hay s _ (all_are_starts hay s) y same) e x
      (subst (IsNextAfter span_of_run hay (λ s o. run_at r hay (places hay s) ≡ o) e) h (next_after-IsNextAfter span_of_run hay (λ s. run_at r hay (places hay s)) e))).0

  -- the runs after a match that ends at a place, or all
  abbrev pub runs_after : Option ℕ → List Run
  runs_after None = successive span_of_run hay (λ s. run_at r hay (places hay s))
  runs_after (Some e) = successive_after span_of_run hay (λ s. run_at r hay (places hay s)) e

  runs_go_on : (last : Option ℕ) → runs_after last ≡ followed span_of_run (successive_after span_of_run hay (λ s. run_at r hay (places hay s))) (next_run r hay last)
  unfolding successive
  runs_go_on None = refl
  runs_go_on (Some e) = goes_on span_of_run hay (λ s. run_at r hay (places hay s)) (λ s y same. run_at-lies r is hay s _ (all_are_starts hay s) y same) e

  pub runs_step : (last : Option ℕ) (x : Run) → next_run r hay last ≡ Some x → runs_after last ≡ x ∷ runs_after (Some x.end)
  runs_step last x h = runs_go_on last ∙ ap (followed span_of_run (successive_after span_of_run hay (λ s. run_at r hay (places hay s)))) h

  pub runs_none : (last : Option ℕ) → next_run r hay last ≡ None → runs_after last ≡ []
  runs_none last h = runs_go_on last ∙ ap (followed span_of_run (successive_after span_of_run hay (λ s. run_at r hay (places hay s)))) h

  pub spans_runs : (last : Option ℕ) → spans_after r hay last ≡ map span_of_run (runs_after last)
  spans_runs None = sym (mapped_successive span_of_run span_of_run (λ s. s) (λ x. refl) hay (λ s. run_at r hay (places hay s)))
  spans_runs (Some e) = sym (mapped_after span_of_run span_of_run (λ s. s) (λ x. refl) hay (λ s. run_at r hay (places hay s)) e)

  pub spans_step : (last : Option ℕ) (x : Run) → next_run r hay last ≡ Some x → spans_after r hay last ≡ span_of_run x ∷ spans_after r hay (Some x.end)
  spans_step last x h = spans_runs last ∙ ap (map span_of_run) (runs_step last x h) ∙ ap (λ ss. span_of_run x ∷ ss) (sym (spans_runs (Some x.end)))

  pub spans_none : (last : Option ℕ) → next_run r hay last ≡ None → spans_after r hay last ≡ []
  spans_none last h = spans_runs last ∙ ap (map span_of_run) (runs_none last h)

  captures_runs : (last : Option ℕ) → captures_after r hay last ≡ map (captured_by r hay) (runs_after last)
  captures_runs None = refl
  captures_runs (Some e) = refl

  pub captures_step : (last : Option ℕ) (x : Run) → next_run r hay last ≡ Some x → captures_after r hay last ≡ captured_by r hay x ∷ captures_after r hay (Some x.end)
  captures_step last x h =
      captures_runs last ∙ ap (map (captured_by r hay)) (runs_step last x h) ∙ ap (λ cs. captured_by r hay x ∷ cs) (sym (captures_runs (Some x.end)))

  pub captures_none : (last : Option ℕ) → next_run r hay last ≡ None → captures_after r hay last ≡ []
  captures_none last h = captures_runs last ∙ ap (map (captured_by r hay)) (runs_none last h)

  -- the next match is the first of those that are left
  pub next_finds : (last : Option ℕ) (m : Option Excerpt) (n : ℕ) (new : List (Option ℕ)) → FindsNextRun r hay last m n new → FindsNext r hay last m
  next_finds last None n new h = spans_none last h
  next_finds last (Some m) n new h = record {
    haystack = ap (λ (e : Excerpt). e.haystack) h.2;
    lies = subst (λ (e : Excerpt). LiesFrom (length hay) (unwrap_or last 0) e.span) (sym h.2) (next_lies_there last h.0 h.1);
    follow = spans_step last h.0 h.1 ∙ ap (λ (e : Excerpt). e.span ∷ spans_after r hay (Some e.span.end)) (sym h.2);
  }

  -- and all slots hold its groups
  pub next_reads : (last : Option ℕ) (m : Option Excerpt) (n : ℕ) (new : List (Option ℕ)) → FindsNextRun r hay last m n new → n ≡ r.program.slots →
      ReadsNext r hay last m new
  next_reads last None n new h all = (spans_none last h, captures_none last h)
  next_reads last (Some m) n new h all =
      let x = h.0 in
      let is_new : new ≡ slots r.program x = h.3 ∙ take_all n (slots r.program x) (let len = length-slots r.program x in omega arith) in
      let place = next_place last x h.1 in record {
        next = next_finds last (Some m) n new h;
        are = subst (AreGroups r hay) (sym is_new) (run_at-AreGroups r is hay place.0 _ (all_are_starts hay place.0) x place.1);
        whole =
            ap (λ l. group_in l 0) is_new ∙ run_at-whole r is hay place.0 _ (all_are_starts hay place.0) x place.1
            ∙ ap (λ (e : Excerpt). Some e.span) (sym h.2);
        follow =
            captures_step last x h.1
            ∙ ap₂ (λ l (e : Excerpt). captured r hay l ∷ captures_after r hay (Some e.span.end)) (sym is_new) (sym h.2);
      }

  -- and so they do in a list that is written over its whole length
  pub next_written : (last : Option ℕ) (m : Option Excerpt) (old items now new : List (Option ℕ)) (n : ℕ) → old ≡ items → now ≡ items →
      length old ≡ r.program.slots → n ≡ length now → FindsNextRun r hay last m (length now) new →
      ReadsNext r hay last m (take n (new ++ drop (length new) items))
  next_written last None old items now new n view same fits len h = (spans_none last h, captures_none last h)
  next_written last (Some m) old items now new n view same fits len h =
      let all : length now ≡ r.program.slots = ap length same ∙ ap length (sym view) ∙ fits in
      let is_new : new ≡ slots r.program h.0 = h.3 ∙ take_all (length now) (slots r.program h.0) (let l = length-slots r.program h.0 in omega arith) in
      subst (λ l. ReadsNext r hay last (Some m) l)
      (sym (written_over n new items (ap length is_new ∙ length-slots r.program h.0 ∙ sym all ∙ ap length same) (len ∙ ap length same)))
      (next_reads last (Some m) (length now) new h all)

moved_captures : (s t : Cursor) (last : Option ℕ) → IsSameSearch s t → t.last ≡ last → captures_to_come t ≡ captures_after s.regex.now s.haystack.now last
moved_captures s t last same is =
    ap (λ h. captures_after t.regex.now h t.last) same.1
    ∙ ap (λ r. captures_after r s.haystack.now t.last) same.0
    ∙ ap (λ l. captures_after s.regex.now s.haystack.now l) is

-- and with all slots it is one to the captures of the match
pub captures_come : (s t : Cursor) (m : Option Match) (new : List (Option ℕ)) → ReadsNext s.regex.now s.haystack.now s.last (option_map excerpt_of m) new →
    IsSameSearch s t → Moves s m t → CapturesCome s (is_some m) t new
captures_come s t None new next same moves = (next.1, moved_captures s t s.last same moves ∙ next.1)
captures_come s t (Some m) new next same moves = (
  next.follow ∙ ap₂ (λ a b. a ∷ b) (ap₂ (λ a b. captured a b new) (sym same.0) (sym same.1)) (sym (moved_captures s t (Some (excerpt_of m).span.end) same moves.1)),
  subst (λ h. AreGroups t.regex.now h new) (sym same.1) (subst (λ q. AreGroups q s.haystack.now new) (sym same.0) next.are),
)
