-- All matches of a regex are the successive finds of its tree, and none is left out.
use Rattle.std.proofs.lemmas.Grind.{common_steps}
use Rattle.std.proofs.Common.{◌≡◌, ℕ, zero, suc, ◌+◌, ◌<◌, ◌≤◌, Bool, true, false, cond, List, [], ◌∷◌, map, length, Option, Some, None, option_map, refl, sym, ap, subst, inl, inr, arith, IsUtf8, IsCharBoundary}
use Rattle.std.specs.Prelude.{nat_le, unwrap_or}
use Rattle.std.proofs.lemmas.Str.{IsCharBoundary-start}
use Rattle.bites_spec.specs.Utf8.{step_len, places, places_within}
use Rattle.bites_spec.specs.Walks.{Among}
use Rattle.bites_spec.specs.Match.{Span, span, Matches}
use Rattle.bites_spec.specs.Run.{Run, slots}
use Rattle.bites_spec.specs.Slots.{span_of_run}
use Rattle.bites_spec.specs.Found.{IsFirstPlace}
use Rattle.bites_spec.specs.Spans.{IsNextAfter, Follow, Successive, LiesFrom, EndsGrow, successive}
use Rattle.bites_spec.specs.Pieces.{AreInOrder}
use Rattle.bites_spec.specs.Regex.{Regex, IsCompiled, run_at}
use Rattle.bites_spec.specs.Captured.{Captured, FindsSpan, FindsGroups}
use Rattle.bites_spec.specs.Iteration.{spans_in, captures_in, captured_by}
use Rattle.bites_spec.specs.Replaced.{span_in}
use Rattle.bites_spec.specs.AllMatches.{AreMatches, FindsCaptures, AreCaptures, NoMatchBetween, FollowClosely, LeaveNoneOut, FindsAreSuccessive, GroupsAreSuccessive, CapturesAreMatches, NoneIsLeftOut, MatchesStandApart, HaveBorders, MatchesHaveBorders}
use Rattle.bites_spec.proofs.parses.BoundLemmas.{found_lies}
use Rattle.bites_spec.proofs.parses.EventLemmas.{Parse-Matches}
use Rattle.bites_spec.proofs.regex.FoundSomeLemmas.{finds_some}
use Rattle.bites_spec.proofs.regex.RegexRuns.{found_span, found_groups, run_at-whole}
use Rattle.bites_spec.proofs.iteration.SpanLemmas.{next_lies, Successive-in_order, Successive-ends_grow}
use Rattle.bites_spec.proofs.iteration.SuccessiveLemmas.{successive_follow, mapped_successive}
use Rattle.bites_spec.specs.TextLaws.{HasBorders}
use Rattle.bites_spec.proofs.regex.CallerLemmas.{start_is_place}
use Rattle.bites_spec.proofs.utf8.PieceLemmas.{piece_some}
use Rattle.bites_spec.proofs.utf8.StartLemmas.{all_are_starts}
use Rattle.bites_spec.proofs.parses.TextPlaces.{border_behind}
use Rattle.bites_spec.proofs.parses.TextMatches.{found_borders}
use Rattle.bites_spec.proofs.regex.RegexRuns as runs
use Rattle.std.proofs.lemmas.List.{map-id}

-- successive answers of one relation are those of another, by a map that keeps spans
module _ {B C : Type 0} (f : B → C) (span_of : B → Span) (span_of_image : C → Span) (hay : List ℕ)
    (A : ℕ → Option B → Type 0) (D : ℕ → Option C → Type 0)
    (same : (s : ℕ) (x : B) → A s (Some x) → span_of_image (f x) ≡ span_of x)
    (to : (s : ℕ) (o : Option B) → A s o → D s (option_map f o)) where
  next_read : (e : ℕ) (o : Option B) → IsNextAfter span_of hay A e o → IsNextAfter span_of_image hay D e (option_map f o)
  next_read e None (inl (a, some)) = inl (to e None a, λ h. h)
  next_read e (Some x) (inl (a, some)) =
      inl (to e (Some x) a, λ h. some (subst (λ (g : Span). (g.start ≡ e) × (g.end ≡ e)) (same e x a) h))
  next_read e o (inr (x, a, empty, b)) =
      inr (f x, to e (Some x) a, subst (λ (g : Span). (g.start ≡ e) × (g.end ≡ e)) (sym (same e x a)) empty, to (e + step_len hay e) o b)

  next_span : (e : ℕ) (x : B) → IsNextAfter span_of hay A e (Some x) → span_of_image (f x) ≡ span_of x
  next_span e x (inl (a, some)) = same e x a
  next_span e x (inr (y, a, empty, b)) = same (e + step_len hay e) x b

  follow_read : (First : Option B → Type 0) (Then : Option C → Type 0) → ((o : Option B) → First o → Then (option_map f o)) →
      ((x : B) → First (Some x) → span_of_image (f x) ≡ span_of x) → (xs : List B) →
      Follow span_of hay A First xs → Follow span_of_image hay D Then (map f xs)
  follow_read First Then on at [] h = on None h
  follow_read First Then on at (x ∷ xs) h = (
    on (Some x) h.0,
    subst (λ (g : Span). Follow span_of_image hay D (IsNextAfter span_of_image hay D g.end) (map f xs)) (sym (at x h.0))
        (follow_read (IsNextAfter span_of hay A (span_of x).end) (IsNextAfter span_of_image hay D (span_of x).end) (next_read (span_of x).end) (next_span (span_of x).end) xs h.1),
  )

  successive_read : (xs : List B) → Successive span_of hay A xs → Successive span_of_image hay D (map f xs)
  successive_read = follow_read (A 0) (D 0) (to 0) (same 0)

-- what the tree finds from a place on
abbrev FindsFrom : Regex → List ℕ → ℕ → Option Span → Type 0
FindsFrom r hay s = FindsSpan r hay (places hay s)

module _ (r : Regex) (is : IsCompiled r) (hay : List ℕ) where
  abbrev run_from : ℕ → Option Run
  run_from s = run_at r hay (places hay s)

  -- the runs that `successive` lists are the successive answers of the program's runs
  runs_follow : Successive span_of_run hay (λ s o. run_from s ≡ o) (successive span_of_run hay run_from)
  runs_follow = successive_follow span_of_run hay run_from (λ s x e. runs.run_at-lies r is hay s (places hay s) (all_are_starts hay s) x e)

  spans_found : AreMatches r hay (spans_in r hay)
  spans_found =
      subst (AreMatches r hay) (mapped_successive span_of_run span_of_run (λ s. s) (λ x. refl) hay run_from)
      (successive_read span_of_run span_of_run (λ s. s) hay (λ s o. run_from s ≡ o) (FindsFrom r hay) (λ s x e. refl)
      (λ s o e. subst (λ (p : Option Run). FindsFrom r hay s (option_map span_of_run p)) e (found_span r is hay s (places hay s) (all_are_starts hay s)))
      (successive span_of_run hay run_from) runs_follow)

  run_finds : (s : ℕ) (o : Option Run) → run_from s ≡ o → FindsCaptures r hay s (option_map (captured_by r hay) o)
  run_finds s None e = subst (λ (p : Option Run). FindsGroups r hay (places hay s) (option_map (slots r.program) p)) e (found_groups r is hay s (places hay s) (all_are_starts hay s))
  run_finds s (Some x) e =
      (refl, refl, subst (λ (p : Option Run). FindsGroups r hay (places hay s) (option_map (slots r.program) p)) e (found_groups r is hay s (places hay s) (all_are_starts hay s)))

  groups_found : AreCaptures r hay (captures_in r hay)
  groups_found =
      successive_read (captured_by r hay) span_of_run span_in hay (λ s o. run_from s ≡ o) (FindsCaptures r hay)
      (λ s x e. ap (λ o. unwrap_or o (span 0 0)) (run_at-whole r is hay s (places hay s) (all_are_starts hay s) x e)) run_finds
      (successive span_of_run hay run_from) runs_follow

pub finds_are_successive : FindsAreSuccessive
finds_are_successive = spans_found

pub groups_are_successive : GroupsAreSuccessive
groups_are_successive = groups_found

module _ (r : Regex) (hay : List ℕ) where
  captures_span : (s : ℕ) (o : Option Captured) → FindsCaptures r hay s o → FindsFrom r hay s (option_map span_in o)
  captures_span s None none = none
  captures_span s (Some c) (regex, haystack, groups) = grind arith

pub captures_are_matches : CapturesAreMatches
captures_are_matches r hay cs =
    successive_read span_in span_in (λ s. s) hay (FindsCaptures r hay) (FindsFrom r hay) (λ s c h. refl) (captures_span r hay) cs

-- more fuel lists no fewer places
more_places : (n : ℕ) (hay : List ℕ) (s i : ℕ) → Among (places_within n hay s) i → Among (places_within (suc n) hay s) i
more_places zero hay s i h = absurd h
more_places (suc n) hay s i h = by (nat_le s (length hay)) (more_places n hay (s + step_len hay s) i) h
  where
    by : (b : Bool) → (Among (places_within n hay (s + step_len hay s)) i → Among (places_within (suc n) hay (s + step_len hay s)) i) →
        Among (cond b (s ∷ places_within n hay (s + step_len hay s)) []) i →
        Among (cond b (s ∷ places_within (suc n) hay (s + step_len hay s)) []) i
    by true more (inl here) = inl here
    by true more (inr later) = inr (more later)
    by false more h = absurd h

-- a place after e is among the places from the next one on
later_place : (hay : List ℕ) (e k : ℕ) → Among (places hay e) k → e < k → Among (places hay (e + step_len hay e)) k
unfolding places
later_place hay e k h above = grind (arith, common_steps, more_places)

module _ (r : Regex) (hay : List ℕ) where
  -- a found span begins at the first place with a match, matches, and lies in the haystack
  first_of : (s : ℕ) (x : Span) → FindsFrom r hay s (Some x) →
      IsFirstPlace r.tree hay (places hay s) x.start × Matches hay r.tree x.start x.end × LiesFrom (length hay) s x
  first_of s x m =
      let a = m.answer in
      let f = finds_some r.leftmost_longest r.tree hay (places hay s) (Some a) m.found in
      subst (λ (g : Span). IsFirstPlace r.tree hay (places hay s) g.start × Matches hay r.tree g.start g.end × LiesFrom (length hay) s g) (sym m.is_span)
      (f.first, Parse-Matches hay r.tree a.start a.end f.marks f.parse, (found_lies r.tree hay s (places hay s) (all_are_starts hay s) a f).0)

  spans_lie : (s : ℕ) (x : Span) → FindsFrom r hay s (Some x) → LiesFrom (length hay) s x
  spans_lie s x f = (first_of s x f).2

  -- if the found span is empty at e, the empty text matches there
  empty_matches : (e : ℕ) (x : Span) → FindsFrom r hay e (Some x) → (x.start ≡ e) × (x.end ≡ e) → Matches hay r.tree e e
  empty_matches e x f empty = grind (arith, common_steps, first_of)

  between_some : (e : ℕ) → e ≤ length hay → (x : Span) → IsNextAfter (λ s. s) hay (FindsFrom r hay) e (Some x) → NoMatchBetween r.tree hay e (λ k. k < x.start)
  between_some e le x (inl (a, some)) = grind (arith, common_steps, first_of, start_is_place)
  between_some e le x (inr (y, a, empty, b)) = grind (arith, common_steps, first_of, later_place)

  between_end : (e : ℕ) → e ≤ length hay → IsNextAfter (λ s. s) hay (FindsFrom r hay) e None → NoMatchBetween r.tree hay e (λ k. Unit {0})
  between_end e le (inl (a, some)) = grind (arith, common_steps, start_is_place)
  between_end e le (inr (y, a, empty, b)) = record {
    none = λ k among above before. b k (later_place hay e k among above);
    empty = λ before j m. empty_matches e y a empty;
  }

  next_matches : (e : ℕ) (x : Span) → IsNextAfter (λ s. s) hay (FindsFrom r hay) e (Some x) → Matches hay r.tree x.start x.end
  next_matches e x (inl (a, some)) = (first_of e x a).1
  next_matches e x (inr (y, a, empty, b)) = (first_of (e + step_len hay e) x b).1

  follow_closely : (e : ℕ) → e ≤ length hay → (xs : List Span) → Follow (λ s. s) hay (FindsFrom r hay) (IsNextAfter (λ s. s) hay (FindsFrom r hay) e) xs →
      FollowClosely r.tree hay e xs
  follow_closely e le [] is_next = between_end e le is_next
  follow_closely e le (x ∷ xs) is_next =
      let next = next_lies (λ s. s) hay (FindsFrom r hay) spans_lie e x is_next.0 in (
        between_some e le x is_next.0,
        next_matches e x is_next.0,
        next.1,
        follow_closely x.end next.0.2 xs is_next.1,
      )

  leave_none_out : (ss : List Span) → AreMatches r hay ss → LeaveNoneOut r.tree hay ss
  leave_none_out [] f = f
  leave_none_out (x ∷ xs) f =
      let first = first_of 0 x f.0 in (first.0, first.1, follow_closely x.end first.2.2 xs f.1)

pub none_is_left_out : NoneIsLeftOut
none_is_left_out = leave_none_out

pub matches_stand_apart : MatchesStandApart
matches_stand_apart r hay ss all = (
  subst (AreInOrder (length hay) 0) (map-id ss) (Successive-in_order (λ s. s) hay (FindsFrom r hay) (spans_lie r hay) ss all),
  λ x xs e. subst (EndsGrow x.end) (map-id xs)
      (Successive-ends_grow (λ s. s) hay (FindsFrom r hay) (spans_lie r hay) x xs (subst (AreMatches r hay) e all)),
)

-- in UTF-8
module _ (r : Regex) (hay : List ℕ) (utf8 : IsUtf8 hay) where
  span_borders : (s : ℕ) (x : Span) → (s ≤ length hay → IsCharBoundary hay s) → FindsFrom r hay s (Some x) → HasBorders hay x
  span_borders s x border m =
      let a = m.answer in
      let f = finds_some r.leftmost_longest r.tree hay (places hay s) (Some a) m.found in
      let lies = (found_lies r.tree hay s (places hay s) (all_are_starts hay s) a f).0 in let one = lies.0 in let two = lies.1 in let three = lies.2 in
      subst (HasBorders hay) (sym m.is_span) (found_borders r.tree hay s (places hay s) (all_are_starts hay s) a utf8 (border (omega arith)) f).0

  step_border : (e : ℕ) → IsCharBoundary hay e → e + step_len hay e ≤ length hay → IsCharBoundary hay (e + step_len hay e)
  step_border e border within = grind (arith, common_steps, piece_some, border_behind)

  next_borders : (e : ℕ) (x : Span) → IsCharBoundary hay e → IsNextAfter (λ s. s) hay (FindsFrom r hay) e (Some x) → HasBorders hay x
  next_borders e x border (inl (a, some)) = span_borders e x (λ within. border) a
  next_borders e x border (inr (y, a, empty, b)) = span_borders (e + step_len hay e) x (step_border e border) b

  follow_borders : (e : ℕ) (xs : List Span) → IsCharBoundary hay e → Follow (λ s. s) hay (FindsFrom r hay) (IsNextAfter (λ s. s) hay (FindsFrom r hay) e) xs →
      HaveBorders hay xs
  follow_borders e [] border is_next = tt
  follow_borders e (x ∷ xs) border is_next =
      let at = next_borders e x border is_next.0 in (at, follow_borders x.end xs at.1 is_next.1)

  all_borders : (ss : List Span) → AreMatches r hay ss → HaveBorders hay ss
  all_borders [] all = tt
  all_borders (x ∷ xs) all =
      let at = span_borders 0 x (λ within. IsCharBoundary-start hay utf8) all.0 in (at, follow_borders x.end xs at.1 all.1)

pub matches_have_borders : MatchesHaveBorders
matches_have_borders r hay ss utf8 all = all_borders r hay utf8 ss all
