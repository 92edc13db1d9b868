-- The longest match begins where the first one does.
use Rattle.std.proofs.Common.{◌≡◌, ℕ, ◌+◌, ◌≤◌, Bool, true, false, List, length, take, Option, Some, None, refl, sym, ap, ◌∙◌, subst, true≢false, arith}
use Rattle.std.proofs.lemmas.List.{length-append}
use Rattle.std.proofs.Math.Nat.{mul-le-mul_left}
use Rattle.bites_spec.specs.Walks.{Among}
use Rattle.bites_spec.specs.Utf8.{places, start_alone, AreStarts}
use Rattle.bites_spec.specs.Program.{targets}
use Rattle.bites_spec.specs.Run.{Run, Answered, FirstRun, LongestRun, first_run, longest_run, slots}
use Rattle.bites_spec.specs.Slots.{group_in, span_of_run}
use Rattle.bites_spec.specs.Counts.{Room, Record, IsBounded, VisitedSome}
use Rattle.bites_spec.specs.Regex.{Regex, IsCompiled}
use Rattle.bites_spec.proofs.utf8.StartLemmas.{all_are_starts, alone_is_start, start_is_alone}
use Rattle.bites_spec.proofs.utf8.PieceLemmas.{Among-places}
use Rattle.bites_spec.proofs.runs.RunLemmas.{first_run-FirstRun}
use Rattle.bites_spec.proofs.programs.FoundLemmas.{group_0_is_span}
use Rattle.bites_spec.proofs.programs.LongestLemmas.{longest_run-LongestRun, LongestRun-longest_run}
use Rattle.bites_literals.proofs.LawLemmas.{places_go_on}
use Rattle.bites_machine.specs.declared.vm.MatchKind.{MatchKind}
use Rattle.bites_machine.specs.declared.vm.MatchKind.TheVariants.{First, Earliest, Longest}
use Rattle.bites_bytes.specs.Calls.{Searched}
use Rattle.bites_bytes.specs.NextMatch.{IsAnswered}
use Rattle.bites_bytes.proofs.SlotLemmas.{front_group}

-- a longest match is no other kind
first_not_longest : Longest ≡ First → ⊥
first_not_longest never = absurd (cc)

earliest_not_longest : Longest ≡ Earliest → ⊥
earliest_not_longest never = absurd (cc)

unanswered : (r : Regex) (q : Option Run) (found : Bool) (old new : List (Option ℕ)) → Answered r.program q found old new → found ≡ false → q ≡ None
unanswered r None found old new h missing = refl
unanswered r (Some x) found old new h missing = absurd (true≢false (sym h.0 ∙ missing))

answered_some : (r : Regex) (q : Option Run) (found : Bool) (old new : List (Option ℕ)) → Answered r.program q found old new → found ≡ true →
    (x : Run) × (q ≡ Some x) × (new ≡ take (length old) (slots r.program x))
answered_some r None found old new h holds = absurd (true≢false (sym holds ∙ h.0))
answered_some r (Some x) found old new h holds = (x, refl, h.1)

-- the run that is the first from these starts
pub first_is : (r : Regex) (is : IsCompiled r) (hay : List ℕ) (s : ℕ) (starts : List ℕ) → AreStarts hay s starts → (o : Option Run) → first_run r.program hay starts ≡ o →
    FirstRun r.program hay starts o
first_is r is hay s starts are o e = subst (FirstRun r.program hay starts) e (first_run-FirstRun r.program hay is.well_formed s starts are)

module _ (r : Regex) (is : IsCompiled r) (hay : List ℕ) (s : ℕ) where
  -- the answer of a search for the longest match
  answered_longest : (kind : MatchKind) (found : Bool) (old new : List (Option ℕ)) → kind ≡ Longest →
      Answered r.program (longest_run r.program hay (places hay s)) found old new → IsAnswered r kind hay (places hay s) found old new
  answered_longest kind found old new longest h = record {
    first = λ k. absurd (first_not_longest (sym longest ∙ k));
    longest = λ k. h;
    least = λ k. absurd (earliest_not_longest (sym longest ∙ k));
    compiled = is;
  }

  -- Where no match is the first, none is the longest.
  pub none_longest : (kind : MatchKind) (found : Bool) (ends new old : List (Option ℕ)) → kind ≡ Longest → found ≡ false →
      Answered r.program (first_run r.program hay (places hay s)) found ends new → IsAnswered r kind hay (places hay s) false old old
  none_longest kind found ends new old longest missing h =
      let none = unanswered r _ found ends new h missing in
      let no_longest = LongestRun-longest_run r.program hay is.well_formed s (places hay s) (all_are_starts hay s) None (first_is r is hay s _ (all_are_starts hay s) None none) in
      answered_longest kind false old old longest (subst (λ q. Answered r.program q false old old) no_longest (refl, refl))

  module _ (x : Run) (e : first_run r.program hay (places hay s) ≡ Some x) where
    first : FirstRun r.program hay (places hay s) (Some x)
    first = first_is r is hay s _ (all_are_starts hay s) (Some x) e

    -- it begins at a place of the search
    begins : (s ≤ x.start) × (x.start ≤ length hay)
    begins = Among-places hay s x.start first.0.from

    alone : (i : ℕ) → Among (start_alone hay x.start) i → i ≡ x.start
    alone i h = ((start_is_alone hay x.start i).0 h).0

    no_longest_here : longest_run r.program hay (start_alone hay x.start) ≡ None → ⊥
    no_longest_here none =
        subst (LongestRun r.program hay (start_alone hay x.start)) none
        (longest_run-LongestRun r.program hay is.well_formed x.start (start_alone hay x.start) (alone_is_start hay x.start))
        x.start ((start_is_alone hay x.start x.start).1 (refl, begins.1)) x.configurations x.end first.0.runs

    longest_there : (o : Option Run) → LongestRun r.program hay (start_alone hay x.start) o → LongestRun r.program hay (places hay s) o
    longest_there None none = absurd (none x.start ((start_is_alone hay x.start x.start).1 (refl, begins.1)) x.configurations x.end first.0.runs)
    longest_there (Some y) l =
        let at = alone y.start l.0.from in (
          record {
            runs = l.0.runs;
            from = subst (Among (places hay s)) (sym at) first.0.from;
            none_before = λ i among lt o j runs. first.0.none_before i among (omega (arith, lt, at)) o j runs;
          },
          l.1,
          l.2,
        )

    -- the longest run of all is the longest from there
    same_longest : longest_run r.program hay (start_alone hay x.start) ≡ longest_run r.program hay (places hay s)
    same_longest =
        LongestRun-longest_run r.program hay is.well_formed s (places hay s) (all_are_starts hay s) _
        (longest_there _ (longest_run-LongestRun r.program hay is.well_formed x.start (start_alone hay x.start) (alone_is_start hay x.start)))

    pub longest_here : (kind : MatchKind) (found : Bool) (old new : List (Option ℕ)) → kind ≡ Longest →
        Answered r.program (longest_run r.program hay (start_alone hay x.start)) found old new → IsAnswered r kind hay (places hay s) found old new
    longest_here kind found old new longest h =
        answered_longest kind found old new longest (subst (λ q. Answered r.program q found old new) same_longest h)

    -- such a search finds something
    found_here : (found : Bool) (old new : List (Option ℕ)) → Answered r.program (longest_run r.program hay (start_alone hay x.start)) found old new → found ≡ true
    found_here true old new h = refl
    found_here false old new h = absurd (no_longest_here (unanswered r _ false old new h refl))

    fewer : length (places hay x.start) ≤ length (places hay s)
    fewer =
        let tail = places_go_on hay s x.start first.0.from in
        let len = ap length tail.1 ∙ length-append tail.0 (places hay x.start) in omega arith

    bounded : (c : Record) → IsBounded r.program hay x.start c → IsBounded r.program hay s c
    bounded c b =
        let visits = mul-le-mul_left (length r.program.states) fewer in
        let looks = mul-le-mul_left (targets r.program + 1) fewer in
        record {
          apart = b.apart;
          read = b.read;
          visits = let v = b.visits in omega (arith, v, visits);
          looks = let l = b.looks in omega (arith, l, looks);
          looked = b.looked;
        }

    visited : (c : Record) → VisitedSome r.program hay (start_alone hay x.start) c → VisitedSome r.program hay (places hay s) c
    visited c v = (v.0, v.1, subst (Among (places hay s)) (sym (alone v.0.start v.2)) first.0.from, v.3)

    pub searched_here : (found : Bool) (old new : List (Option ℕ)) (before between after : Room) → between.fits ≡ before.fits →
        Answered r.program (longest_run r.program hay (start_alone hay x.start)) found old new →
        Searched r hay x.start (start_alone hay x.start) found between after → Searched r hay s (places hay s) found before after
    searched_here found old new before between after fits h by = subst (λ f. Searched r hay s (places hay s) f before after) (sym yes) record {
      fits = by.fits ∙ fits;
      walked = (bounded after.walked there.walked.0, visited after.walked there.walked.1);
      read = by.read;
    }
      where
        yes : found ≡ true
        yes = found_here found old new h

        there : Searched r hay x.start (start_alone hay x.start) true between after
        there = subst (λ f. Searched r hay x.start (start_alone hay x.start) f between after) yes by

  -- the first slot has the place where the first match begins
  pub begins_in : (found : Bool) (ends new : List (Option ℕ)) → found ≡ true → 2 ≤ length ends → Answered r.program (first_run r.program hay (places hay s)) found ends new →
      (x : Run) × (first_run r.program hay (places hay s) ≡ Some x) × (group_in new 0 ≡ Some (span_of_run x))
  begins_in found ends new holds two h =
      let a = answered_some r _ found ends new h holds in
      let f = first_is r is hay s _ (all_are_starts hay s) (Some a.0) a.1 in (
        a.0,
        a.1,
        ap (λ l. group_in l 0) a.2 ∙ front_group (length ends) (slots r.program a.0) two
            ∙ group_0_is_span r.tree r.program hay is.compilable is.built a.0 f.0.runs,
      )
