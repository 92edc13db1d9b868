-- The match that a literal is: from where the tree first matches, each run ends there.
use Rattle.std.proofs.Common.{◌≡◌, ℕ, zero, suc, ◌+◌, ◌<◌, ◌≤◌, Bool, true, false, List, [], ◌∷◌, length, take, Option, Some, None, option_map, refl, sym, ap, ap₂, ◌∙◌, subst, ◌⊎◌, inl, inr, ⊎_elim, true≢false, arith}
use Rattle.std.proofs.lemmas.Bool.{cases_lt, cases_eq}
use Rattle.std.proofs.lemmas.Option.{same_Some, none-some}
use Rattle.std.specs.Prelude.{slice_set}
use Rattle.bites_spec.specs.Walks.{Among}
use Rattle.bites_spec.specs.Utf8.{places}
use Rattle.bites_spec.specs.Program.{Configuration}
use Rattle.bites_spec.specs.Match.{Matches, Span, span}
use Rattle.bites_spec.specs.Found.{Finds, head_of, parse_to}
use Rattle.bites_spec.specs.Preference.{parses}
use Rattle.bites_spec.specs.Run.{Run, Answered, IsRun, StartsFirst, FirstRun, LongestRun, LeastEnd, chosen_run, first_run, first_run_to, longest_run, slots}
use Rattle.bites_spec.specs.Slots.{answer_of, group_in, span_of_run}
use Rattle.bites_spec.specs.Counts.{Room, IsWalked}
use Rattle.bites_spec.specs.Regex.{Regex, IsCompiled}
use Rattle.bites_spec.proofs.utf8.StartLemmas.{all_are_starts}
use Rattle.bites_spec.proofs.utf8.PieceLemmas.{Among-places}
use Rattle.bites_spec.proofs.runs.RunLemmas.{first_run-FirstRun}
use Rattle.bites_spec.proofs.runs.RunBoundLemmas.{run_lies}
use Rattle.bites_spec.proofs.programs.BuiltLemmas.{run_is_match, match_is_run}
use Rattle.bites_spec.proofs.programs.FoundLemmas.{group_0_is_span}
use Rattle.bites_spec.proofs.programs.LongestLemmas.{longest_run-LongestRun, run_to, no_run_to}
use Rattle.bites_spec.proofs.regex.RegexLemmas.{chosen_run_found}
use Rattle.bites_literals.specs.Begins.{IsPreferred}
use Rattle.bites_literals.proofs.PlaceLemmas.{start_among}
use Rattle.bites_machine.specs.Inputs.{is_longest}
use Rattle.bites_machine.specs.declared.vm.Input.{Input}
use Rattle.bites_machine.specs.declared.vm.MatchKind.{MatchKind}
use Rattle.bites_machine.specs.declared.vm.MatchKind.TheVariants.{Earliest, First, Longest}
use Rattle.bites_machine.specs.Trace.{HasRun}
use Rattle.bites_bytes.specs.NextMatch.{AsksFew, BeginsBy, IsAnswered, IsMatch, IsSearched, asks_end}
use Rattle.bites_bytes.proofs.MadeLemmas.{made_one}
use Rattle.bites_bytes.proofs.LaterLemmas.{searched_for}

-- the first two slots, by the group that they hold
ends_of : (l : List (Option ℕ)) (i j : ℕ) → group_in l 0 ≡ Some (span i j) → take 2 l ≡ Some i ∷ Some j ∷ []
ends_of [] i j e = absurd (none-some _ e)
ends_of (None ∷ l) i j e = absurd (none-some _ e)
ends_of (Some a ∷ []) i j e = absurd (none-some _ e)
ends_of (Some a ∷ None ∷ l) i j e = absurd (none-some _ e)
ends_of (Some a ∷ Some b ∷ l) i j e = let x : a ≡ i = ap (λ (s : Span). s.start) (same_Some _ _ e) in let y : b ≡ j = ap (λ (s : Span). s.end) (same_Some _ _ e) in rw (x, y) refl

-- as many of the two ends as are asked for
abbrev pub ends_for : ℕ → (i j : ℕ) → List (Option ℕ)
ends_for n i j = take n (Some i ∷ Some j ∷ [])

-- both ends are written, or none is asked for
pub both_written : (old : List (Option ℕ)) (i j : ℕ) → length old ≡ 2 → slice_set (slice_set old 0 (Some i)) 1 (Some j) ≡ ends_for (length old) i j
both_written [] i j e = absurd (omega (arith, e))
both_written (x ∷ []) i j e = absurd (omega (arith, e))
both_written (x ∷ y ∷ []) i j e = refl
both_written (x ∷ y ∷ z ∷ l) i j e = absurd (omega (arith, e))

pub none_written : (old : List (Option ℕ)) (i j : ℕ) → length old ≡ 0 → old ≡ ends_for (length old) i j
none_written [] i j e = refl
none_written (x ∷ l) i j e = absurd (omega (arith, e))

pub no_slots : (old : List (Option ℕ)) → length old ≡ 0 → old ≡ []
no_slots [] e = refl
no_slots (x ∷ l) e = absurd (omega (arith, e))

-- where some run begins, one of all runs ends first
module _ (r : Regex) (is : IsCompiled r) (hay : List ℕ) (starts : List ℕ) (within : (k : ℕ) → Among starts k → k ≤ length hay) where
  -- a run from one of the starts that ends there
  abbrev EndsAt : ℕ → Type 0
  EndsAt l = (x : Run) × IsRun r.program hay x.start x.configurations x.end × Among starts x.start × (x.end ≡ l)

  abbrev NoneEndsAt : List ℕ → ℕ → Type 0
  NoneEndsAt ps l = (k : ℕ) → Among ps k → (o : List Configuration) → IsRun r.program hay k o l → ⊥

  ends_there : (l : ℕ) (ps : List ℕ) → ((k : ℕ) → Among ps k → Among starts k) → EndsAt l ⊎ NoneEndsAt ps l
  ends_there l [] sub = inr (λ k h. absurd h)
  ends_there l (k ∷ ps) sub = by (first_run_to r.program hay k l) refl (ends_there l ps (λ q h. sub q (inr h)))
    where
      by : (o : Option Run) → first_run_to r.program hay k l ≡ o → EndsAt l ⊎ NoneEndsAt ps l → EndsAt l ⊎ NoneEndsAt (k ∷ ps) l
      by (Some x) e rest =
          let y = run_to r.program hay is.well_formed k l x e (within k (sub k (inl refl))) in
          inl (record { start = k; configurations = y.0; end = l }, y.2, sub k (inl refl), refl)
      by None e (inl found) = inl found
      by None e (inr none) =
          let not_here = no_run_to r.program hay is.well_formed k l e (within k (sub k (inl refl))) in
          inr (λ q h o runs. ⊎_elim (λ (same : k ≡ q). not_here o (subst (λ q. IsRun r.program hay q o l) (sym same) runs)) (λ later. none q later o runs) h)

  Least : Type 0
  Least = (o : Run) × LeastEnd r.program hay starts (Some o)

  found : (n : ℕ) → ((l : ℕ) → l < n → NoneEndsAt starts l) → EndsAt n → Least
  unfolding Least
  found n below (x, runs, among, e) =
      (x, (runs, among, λ k h o l other. elim (cases_lt l n) [ inl less ↦ absurd (below l less k h o other) | inr at ↦ omega (arith, at, e) ]))

  least_from : (n fuel : ℕ) → ((l : ℕ) → l < n → NoneEndsAt starts l) → EndsAt (n + fuel) → Least
  least_from n zero below (x, runs, among, e) =
      let here : x.end ≡ n = omega (arith, e) in found n below (x, runs, among, here)
  least_from n (suc fuel) below (x, runs, among, e) =
      ⊎_elim (found n below)
      (λ none. least_from (n + 1) fuel (λ l less. elim (cases_eq l n) [
        | inl same ↦ subst (NoneEndsAt starts) (sym same) none
        | inr other ↦ below l (omega (arith, less, other))
      ]) (x, runs, among, omega (arith, e)))
      (ends_there n starts (λ k h. h))

  pub least_end : (i j : ℕ) (o : List Configuration) → Among starts i → IsRun r.program hay i o j → (x : Run) × LeastEnd r.program hay starts (Some x)
  unfolding Least
  least_end i j o among runs = least_from 0 j (λ l less. absurd (omega (arith, less))) (record { start = i; configurations = o; end = j }, runs, among, omega arith)

module _ (with_end : Bool) (r : Regex) (is : IsCompiled r) (hay : List ℕ) (s i j : ℕ) (m : IsMatch with_end r hay s i j) where
  within : i ≤ length hay
  within = (Among-places hay s i m.first.first.place).1

  here : Among (places hay i) i
  here = start_among hay i within

  run : (o : List Configuration) × IsRun r.program hay i o j
  run = match_is_run r.tree r.program hay is.compilable is.built i j m.first.matches

  -- a run that begins first begins there
  starts_there : (x : Run) → StartsFirst r.program hay (places hay i) x → x.start ≡ i
  starts_there x first =
      let from = (Among-places hay i x.start first.from).0 in
      elim (cases_lt i x.start) [
        | inl later ↦ absurd (first.none_before i here later run.0 j run.1)
        | inr at ↦ omega (arith, from, at)
      ]

  -- a run from there is a match from there
  matches_there : (x : Run) → StartsFirst r.program hay (places hay i) x → Matches hay r.tree i x.end
  matches_there x first =
      subst (λ k. Matches hay r.tree k x.end) (starts_there x first) (run_is_match r.tree r.program hay is.compilable is.built x.start x.end x.configurations first.runs)

  -- a run that is chosen there ends there, if it does where several matches begin
  ends_there_by : (x : Run) → StartsFirst r.program hay (places hay i) x → (IsPreferred r.tree hay i j → x.end ≡ j) → with_end ≡ true → (x.start ≡ i) × (x.end ≡ j)
  ends_there_by x first preferred asked = (starts_there x first, ⊎_elim (λ only. only x.end (matches_there x first)) preferred (m.first.chosen asked))

  -- what a search of the tree finds is such a run
  found_there : (longest : Bool) (x : Run) → chosen_run longest r.program hay (places hay i) ≡ Some x → Finds longest r.tree hay (places hay i) (Some (answer_of r.program x))
  found_there longest x e =
      subst (λ o. Finds longest r.tree hay (places hay i) (option_map (answer_of r.program) o)) e
      (chosen_run_found r.tree r.program hay is.compilable is.built is.well_formed longest i (places hay i) (all_are_starts hay i))

  -- the first slots of each run from there are these
  abbrev pub Leaves : List (Option ℕ) → List (Option ℕ) → Type 0
  Leaves old new = (x : Run) → IsRun r.program hay x.start x.configurations x.end → (x.start ≡ i) × (x.end ≡ j) → new ≡ take (length old) (slots r.program x)

  pub leaves_ends : (old new : List (Option ℕ)) → (length old ≡ 0) ⊎ (length old ≡ 2) → new ≡ ends_for (length old) i j → Leaves old new
  leaves_ends old new few are x runs at = are ∙ sym (taken (length old) few)
    where
      both : span_of_run x ≡ span i j
      both = ap₂ span at.0 at.1

      taken : (n : ℕ) → (n ≡ 0) ⊎ (n ≡ 2) → take n (slots r.program x) ≡ ends_for n i j
      taken n (inl e) = rw e refl
      taken n (inr e) = rw e (ends_of (slots r.program x) i j (group_0_is_span r.tree r.program hay is.compilable is.built x runs ∙ ap (λ (s : Span). Some s) both))

  -- a run that a search returns there
  record Returned (o : Option Run) : Type 0 where
    its : Run
    same : o ≡ Some its
    starts : StartsFirst r.program hay (places hay i) its
    ends : with_end ≡ true → (its.start ≡ i) × (its.end ≡ j)

  -- the end is asked for, or no slot is
  abbrev pub AsksEnd : List (Option ℕ) → List (Option ℕ) → Type 0
  AsksEnd old new = (with_end ≡ true) ⊎ ((length old ≡ 0) × (new ≡ []))

  slots_of : (old new : List (Option ℕ)) → AsksEnd old new → Leaves old new → (o : Option Run) → (x : Returned o) → new ≡ take (length old) (slots r.program x.its)
  slots_of old new (inl asked) leaves o x = leaves x.its x.starts.runs (x.ends asked)
  slots_of old new (inr none) leaves o x = none.1 ∙ rw (none.0) refl

  answer : (old new : List (Option ℕ)) → AsksEnd old new → Leaves old new → (o : Option Run) → Returned o → Answered r.program o true old new
  answer old new asks leaves o x = subst (λ o. Answered r.program o true old new) (sym x.same) (refl, slots_of old new asks leaves o x)

  first_of : (o : Option Run) → first_run r.program hay (places hay i) ≡ o → FirstRun r.program hay (places hay i) o → Returned o
  first_of None e none = absurd (none i here run.0 j run.1)
  first_of (Some x) e first = record {
    its = x;
    same = refl;
    starts = first.0;
    ends = ends_there_by x first.0 (λ preferred.
        let found = found_there false x e in
        let head = subst (λ k. head_of (parses hay r.tree k) ≡ Some (parse_to x.end found.marks)) (starts_there x first.0) (found.chosen preferred.plain) in
        preferred.head (parse_to x.end found.marks) head);
  }

  longest_of : (o : Option Run) → longest_run r.program hay (places hay i) ≡ o → LongestRun r.program hay (places hay i) o → Returned o
  longest_of None e none = absurd (none i here run.0 j run.1)
  longest_of (Some x) e longest = record {
    its = x;
    same = refl;
    starts = longest.0;
    ends = ends_there_by x longest.0 (λ preferred.
        let greatest = (found_there true x e).chosen.0 j (subst (λ k. Matches hay r.tree k j) (sym (starts_there x longest.0)) m.first.matches) in
        omega (arith, greatest, preferred.greatest x.end (matches_there x longest.0)));
  }

  first : Returned (first_run r.program hay (places hay i))
  first = first_of _ refl (first_run-FirstRun r.program hay is.well_formed i (places hay i) (all_are_starts hay i))

  longest : Returned (longest_run r.program hay (places hay i))
  longest = longest_of _ refl (longest_run-LongestRun r.program hay is.well_formed i (places hay i) (all_are_starts hay i))

  least : (o : Run) × LeastEnd r.program hay (places hay i) (Some o)
  least = least_end r is hay (places hay i) (λ k h. (Among-places hay i k h).1) i j run.0 here run.1

  pub answered : (kind : MatchKind) (old new : List (Option ℕ)) → (kind ≡ Earliest → length old ≡ 0) → AsksEnd old new → Leaves old new → IsAnswered r kind hay (places hay i) true old new
  answered kind old new none asks leaves = record {
    first = λ k. answer old new asks leaves (first_run r.program hay (places hay i)) first;
    longest = λ k. answer old new asks leaves (longest_run r.program hay (places hay i)) longest;
    least = λ k. (Some least.0, least.1, (refl, no_slots (length old) (none k) (slots_of old new asks leaves _ first)));
    compiled = is;
  }
    where
      no_slots : (n : ℕ) → n ≡ 0 → new ≡ take n (slots r.program first.its) → new ≡ take n (slots r.program least.0)
      no_slots n e are = are ∙ rw e refl

  -- it lies in the haystack
  pub lies : (i ≤ j) × (j ≤ length hay)
  lies =
      let within = (run_lies r.program hay is.well_formed i (record { start = i; configurations = run.0; end = j }) here run.1).0 in
      omega (arith, within)

  -- some run begins there
  pub has_run : HasRun r.program hay i
  has_run = (first.its, first.same)

-- a search that returns it, and records its run
pub matched : (r : Regex) (is : IsCompiled r) (input : Input) → input.anchored ≡ false → (i j : ℕ) (m : IsMatch (asks_end input.kind) r input.haystack.now input.start i j) →
    (old new : List (Option ℕ)) → (input.kind ≡ Earliest → length old ≡ 0) → AsksEnd (asks_end input.kind) r is input.haystack.now input.start i j m old new →
    Leaves (asks_end input.kind) r is input.haystack.now input.start i j m old new → (before after : Room) → after.fits ≡ before.fits → after.searches ≡ suc before.searches →
    IsWalked r.program input.haystack.now i (places input.haystack.now i) true after.walked → IsSearched r input true old new before after
matched r is input from i j m old new none asks leaves before after fits one walked =
    searched_for r input false (inl (sym from)) (λ k. sym from) i (subst (λ b. BeginsBy b r input.haystack.now input.start i) (sym from) m.begins) true old new before before after refl record {
      answered = answered (asks_end input.kind) r is input.haystack.now input.start i j m input.kind old new none asks leaves;
      searched = record { fits = fits; walked = walked; read = λ none. absurd (true≢false (sym m.table ∙ none)) };
      searches = made_one (is_longest input.kind) false before after one;
    }

-- a search for another end than the least asks where the match ends
pub end_asked : (kind : MatchKind) → (kind ≡ Earliest → ⊥) → asks_end kind ≡ true
end_asked First other = refl
end_asked Earliest other = absurd (other refl)
end_asked Longest other = refl

-- no slots are asked for where those of the least end would be
pub few_none : (kind : MatchKind) (n : ℕ) → AsksFew kind n → kind ≡ Earliest → n ≡ 0
few_none kind n (inl e) k = e
few_none kind n (inr e) k = absurd (e.1 k)

pub few_count : (kind : MatchKind) (n : ℕ) → AsksFew kind n → (n ≡ 0) ⊎ (n ≡ 2)
few_count kind n (inl e) = inl e
few_count kind n (inr e) = inr e.0
