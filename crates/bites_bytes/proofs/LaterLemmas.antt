-- A search that explores from a later place finds what one from the start finds.
use Rattle.std.proofs.Common.{◌≡◌, ℕ, ◌+◌, ◌<◌, Bool, true, false, List, length, Option, Some, None, refl, sym, ap, ◌∙◌, subst, ◌⊎◌, inl, inr, ⊎_elim, arith, leb-true, leb-false, true≢false}
use Rattle.std.specs.Prelude.{nat_le}
use Rattle.bites_spec.specs.Walks.{Among}
use Rattle.bites_spec.specs.Utf8.{places, start_alone, AreStarts}
use Rattle.bites_spec.specs.Program.{Configuration}
use Rattle.bites_spec.specs.Run.{Run, Answered, IsRun, StartsFirst, FirstRun, LongestRun, LeastEnd, first_run, longest_run}
use Rattle.bites_spec.specs.Counts.{Room, Record, VisitedBy}
use Rattle.bites_spec.specs.Regex.{Regex, IsCompiled}
use Rattle.bites_spec.proofs.utf8.StartLemmas.{all_are_starts, alone_is_start, start_is_alone}
use Rattle.bites_spec.proofs.utf8.PieceLemmas.{Among-places}
use Rattle.bites_spec.proofs.runs.PlaceLemmas.{places-past}
use Rattle.bites_spec.proofs.runs.RunLemmas.{first_run-FirstRun}
use Rattle.bites_spec.proofs.programs.BuiltLemmas.{run_is_match}
use Rattle.bites_spec.proofs.programs.OneLemmas.{FirstRun-first_run}
use Rattle.bites_spec.proofs.programs.LongestLemmas.{longest_run-LongestRun, LongestRun-longest_run}
use Rattle.bites_spec.specs.Found.{NoMatch}
use Rattle.bites_literals.specs.declared.prefilter.Begin.{Begin}
use Rattle.bites_literals.specs.declared.prefilter.Begin.TheVariants.{Nowhere, From, Match}
use Rattle.bites_literals.specs.Begins.{NoneBefore, BeginsAtStart, place_of}
use Rattle.bites_literals.specs.Begins as literals
use Rattle.bites_literals.proofs.LawLemmas.{places_go_on, among_back, among_one}
use Rattle.bites_literals.proofs.PlaceLemmas.{start_among}
use Rattle.bites_machine.specs.Inputs.{starts_of}
use Rattle.bites_machine.specs.declared.vm.Input.{Input}
use Rattle.bites_machine.specs.declared.vm.MatchKind.{MatchKind}
use Rattle.bites_machine.specs.declared.vm.MatchKind.TheVariants.{Longest}
use Rattle.bites_bytes.specs.Calls.{BeginsAt, Searched, SearchedBy}
use Rattle.bites_bytes.specs.NextMatch.{BeginsBy, BeginsFrom, ExploresAs, IsAnswered, IsExplored, IsMatch, IsSearched, MakesAs}
use Rattle.bites_bytes.proofs.MadeLemmas.{made_as}

-- a search explores from its start on
pub begins_here : (r : Regex) (hay : List ℕ) (s : ℕ) → BeginsAt r hay s s
begins_here r hay s = record {
  place = by (nat_le s (length hay)) refl;
  none_before = λ i among lt j m. absurd (omega (arith, lt, (Among-places hay s i among).0));
  plain = λ off. refl;
}
  where
    by : (b : Bool) → nat_le s (length hay) ≡ b → Among (places hay s) s ⊎ (length hay < s)
    by true e = inl (start_among hay s (leb-true s (length hay) e))
    by false e = inr (leb-false s (length hay) e)

-- where a literal says that nothing matches, it explores from behind the end
begins_nowhere : (r : Regex) (hay : List ℕ) (s : ℕ) → r.prefilter ≡ true → NoMatch r.tree hay (places hay s) → BeginsAt r hay s (length hay + 1)
begins_nowhere r hay s on none = record {
  place = inr (omega arith);
  none_before = λ i among lt j m. none i among j m;
  plain = λ off. absurd (true≢false (sym on ∙ off));
}

-- a regex that looks for a literal explores from where the literal says
pub begins_later : (r : Regex) (hay : List ℕ) (s p : ℕ) → r.prefilter ≡ true → NoneBefore r.tree hay s p → BeginsAt r hay s p
begins_later r hay s p on none = record { place = inl none.place; none_before = none.none_before; plain = λ off. absurd (true≢false (sym on ∙ off)) }

-- where no match is found, it explores from the place
pub explores_from : (with_end : Bool) (r : Regex) (hay : List ℕ) (s p : ℕ) → BeginsAt r hay s p → BeginsFrom with_end r hay s (From p)
explores_from with_end r hay s p begins = record { begins = begins; found = λ i j never. absurd (cc) }

-- it begins where the literal says, or this is its match
pub begins_from : (with_end : Bool) (r : Regex) (hay : List ℕ) (s : ℕ) → r.prefilter ≡ true → (b : Begin) → literals.BeginsBy with_end r.tree hay s b → r.has_table ≡ true →
    BeginsFrom with_end r hay s b
begins_from with_end r hay s on Nowhere none table = record {
  begins = begins_nowhere r hay s on none;
  found = λ i j never. absurd (cc);
}
begins_from with_end r hay s on (From p) none table = explores_from with_end r hay s p (begins_later r hay s p on none)
begins_from with_end r hay s on (Match p q) first table = record {
  begins = begins_later r hay s p on first.first;
  found = λ i j e.
      let x : p ≡ i = cc in
      let y : q ≡ j = cc in
      subst (λ k. IsMatch with_end r hay s k j) x
      (subst (λ k. IsMatch with_end r hay s p k) y (record { begins = begins_later r hay s p on first.first; first = first; table = table }));
}

-- so it begins at that place
pub begins_at : (with_end : Bool) (r : Regex) (hay : List ℕ) (s : ℕ) → r.prefilter ≡ true → (b : Begin) → literals.BeginsBy with_end r.tree hay s b → BeginsAt r hay s (place_of hay b)
begins_at with_end r hay s on Nowhere none = begins_nowhere r hay s on none
begins_at with_end r hay s on (From p) none = begins_later r hay s p on none
begins_at with_end r hay s on (Match p q) first = begins_later r hay s p on first.first

-- two searches that runs begin in at the same places
module _ (r : Regex) (is : IsCompiled r) (hay : List ℕ) (s : ℕ) (starts : List ℕ) (are_starts : AreStarts hay s starts) (p : ℕ) (later : List ℕ) (are_later : AreStarts hay p later)
    (there : (i : ℕ) → Among starts i → (o : List Configuration) (j : ℕ) → IsRun r.program hay i o j → Among later i)
    (back : (i : ℕ) → Among later i → (o : List Configuration) (j : ℕ) → IsRun r.program hay i o j → Among starts i) where
  starts_first : (x : Run) → StartsFirst r.program hay later x → StartsFirst r.program hay starts x
  starts_first x f = record {
    runs = f.runs;
    from = back x.start f.from x.configurations x.end f.runs;
    none_before = λ i among lt o j runs. f.none_before i (there i among o j runs) lt o j runs;
  }

  first : (o : Option Run) → FirstRun r.program hay later o → FirstRun r.program hay starts o
  first None f = λ i among o j runs. f i (there i among o j runs) o j runs
  first (Some x) f = (starts_first x f.0, f.1)

  longest : (o : Option Run) → LongestRun r.program hay later o → LongestRun r.program hay starts o
  longest None f = λ i among o j runs. f i (there i among o j runs) o j runs
  longest (Some x) f = (starts_first x f.0, f.1, f.2)

  least : (o : Option Run) → LeastEnd r.program hay later o → LeastEnd r.program hay starts o
  least None f = λ i among o j runs. f i (there i among o j runs) o j runs
  least (Some x) f = (f.0, back x.start f.1 x.configurations x.end f.0, λ i among o j runs. f.2 i (there i among o j runs) o j runs)

  first_same : first_run r.program hay later ≡ first_run r.program hay starts
  first_same = FirstRun-first_run r.program hay is.well_formed s starts are_starts _ (first _ (first_run-FirstRun r.program hay is.well_formed p later are_later))

  longest_same : longest_run r.program hay later ≡ longest_run r.program hay starts
  longest_same =
      LongestRun-longest_run r.program hay is.well_formed s starts are_starts _ (longest _ (longest_run-LongestRun r.program hay is.well_formed p later are_later))

  -- the answer of the one is that of the other
  answered_there : (kind : MatchKind) (found : Bool) (old new : List (Option ℕ)) → IsAnswered r kind hay later found old new → IsAnswered r kind hay starts found old new
  answered_there kind found old new a = record {
    first = λ k. subst (λ o. Answered r.program o found old new) first_same (a.first k);
    longest = λ k. subst (λ o. Answered r.program o found old new) longest_same (a.longest k);
    least = λ k. let l = a.least k in (l.0, least l.0 l.1, l.2);
    compiled = a.compiled;
  }

module _ (r : Regex) (is : IsCompiled r) (hay : List ℕ) (s p : ℕ) (begins : BeginsAt r hay s p) where
  -- a place of the search is one of those from p on, or it lies before p
  before_or : (i : ℕ) → Among (places hay s) i → (i < p) ⊎ Among (places hay p) i
  before_or i h =
      ⊎_elim (λ (among : Among (places hay s) p).
      let tail = places_go_on hay s p among in
      ⊎_elim (λ f. inl (tail.2 i f)) (λ later. inr later) (among_one tail.0 (places hay p) i (subst (λ (l : List ℕ). Among l i) tail.1 h)))
      (λ (past : length hay < p). inl (omega (arith, past, (Among-places hay s i h).1))) begins.place

  back_later : (i : ℕ) → Among (places hay p) i → (o : List Configuration) (j : ℕ) → IsRun r.program hay i o j → Among (places hay s) i
  back_later i h o j runs =
      ⊎_elim (λ (among : Among (places hay s) p).
      let tail = places_go_on hay s p among in
      subst (λ (l : List ℕ). Among l i) (sym tail.1) (among_back tail.0 (places hay p) i h))
      (λ (past : length hay < p). absurd (subst (λ (l : List ℕ). Among l i) (places-past hay p past) h)) begins.place

  there_later : (i : ℕ) → Among (places hay s) i → (o : List Configuration) (j : ℕ) → IsRun r.program hay i o j → Among (places hay p) i
  there_later i among o j runs =
      ⊎_elim (λ less. absurd (begins.none_before i among less j (run_is_match r.tree r.program hay is.compilable is.built i j o runs))) (λ later. later) (before_or i among)

  -- the answer from p on is that from s on
  answered_later : (kind : MatchKind) (found : Bool) (old new : List (Option ℕ)) →
      IsAnswered r kind hay (places hay p) found old new → IsAnswered r kind hay (places hay s) found old new
  answered_later = answered_there r is hay s (places hay s) (all_are_starts hay s) p (places hay p) (all_are_starts hay p) there_later back_later

-- where matches begin at the start of the haystack alone, a search at s finds what one from s on finds
module _ (r : Regex) (is : IsCompiled r) (hay : List ℕ) (s : ℕ) (only : BeginsAtStart r.tree) where
  on : (i : ℕ) → Among (start_alone hay s) i → Among (places hay s) i
  on i h = let is = (start_is_alone hay s i).0 h in subst (Among (places hay s)) (sym is.0) (start_among hay s is.1)

  alone : (i : ℕ) → Among (places hay s) i → (o : List Configuration) (j : ℕ) → IsRun r.program hay i o j → Among (start_alone hay s) i
  alone i h o j runs =
      let at = only hay i j (run_is_match r.tree r.program hay is.compilable is.built i j o runs) in
      let within = Among-places hay s i h in
      (start_is_alone hay s i).1 (omega (arith, at, within), omega (arith, at, within))

  answered_on : (kind : MatchKind) (found : Bool) (old new : List (Option ℕ)) →
      IsAnswered r kind hay (places hay s) found old new → IsAnswered r kind hay (start_alone hay s) found old new
  answered_on =
      answered_there r is hay s (start_alone hay s) (alone_is_start hay s) s (places hay s) (all_are_starts hay s) (λ i h o j runs. on i h) alone

  visited_on : (found : Bool) (c : Record) → VisitedBy r.program hay (places hay s) found c → VisitedBy r.program hay (start_alone hay s) found c
  visited_on true c v = (v.0, v.1, alone v.0.start v.2 v.0.configurations v.0.end v.1, v.3)
  visited_on false c v = λ i h. v i (on i h)

  searched_on : (found : Bool) (old new : Room) → Searched r hay s (places hay s) found old new → Searched r hay s (start_alone hay s) found old new
  searched_on found old new is = record { fits = is.fits; walked = (is.walked.0, visited_on found new.walked is.walked.1); read = is.read }

only_at_start : (r : Regex) → ExploresAs r.tree true false → BeginsAtStart r.tree
only_at_start r ex = ⊎_elim (λ same. absurd (true≢false (sym same))) (λ is. is.2) ex

never_anchored : (r : Regex) → ExploresAs r.tree false true → ⊥
never_anchored r ex = ⊎_elim (λ same. true≢false same) (λ is. true≢false (sym is.0)) ex

-- from where a search explores: an anchored one from its start
module _ (r : Regex) (hay : List ℕ) (s : ℕ) where
  pub begins_there : (b : Bool) → BeginsBy b r hay s s
  begins_there true = refl
  begins_there false = begins_here r hay s

  -- it finds what the search finds that was asked for
  pub answered_by : IsCompiled r → (asked b : Bool) → ExploresAs r.tree asked b → (p : ℕ) → BeginsBy asked r hay s p → (kind : MatchKind) (found : Bool) (old new : List (Option ℕ)) →
      IsAnswered r kind hay (starts_of hay b p) found old new → IsAnswered r kind hay (starts_of hay asked s) found old new
  answered_by is true true ex p begins kind found old new a = subst (λ k. IsAnswered r kind hay (starts_of hay true k) found old new) begins a
  answered_by is true false ex p begins kind found old new a =
      answered_on r is hay s (only_at_start r ex) kind found old new (subst (λ k. IsAnswered r kind hay (starts_of hay false k) found old new) begins a)
  answered_by is false true ex p begins kind found old new a = absurd (never_anchored r ex)
  answered_by is false false ex p begins kind found old new a = answered_later r is hay s p begins kind found old new a

  -- and visits what it has to
  pub searched_by : IsCompiled r → (asked b : Bool) → ExploresAs r.tree asked b → (p : ℕ) → BeginsBy asked r hay s p → (found : Bool) (old new : Room) →
      Searched r hay p (starts_of hay b p) found old new → SearchedBy asked r hay s found old new
  searched_by is true true ex p begins found old new searched = subst (λ k. Searched r hay k (starts_of hay true k) found old new) begins searched
  searched_by is true false ex p begins found old new searched =
      searched_on r is hay s (only_at_start r ex) found old new (subst (λ k. Searched r hay k (starts_of hay false k) found old new) begins searched)
  searched_by is false true ex p begins found old new searched = absurd (never_anchored r ex)
  searched_by is false false ex p begins found old new searched = record {
    fits = searched.fits;
    walked = record { place = p; begins = begins; walked = searched.walked };
    read = searched.read;
  }

-- So a search that explores from where the literal says, and as the pattern begins, is the search that was asked for.
pub searched_for : (r : Regex) (i : Input) (b : Bool) → ExploresAs r.tree i.anchored b → (i.kind ≡ Longest → b ≡ i.anchored) → (p : ℕ) → BeginsBy i.anchored r i.haystack.now i.start p →
    (found : Bool) (old new : List (Option ℕ)) (before between after : Room) → between ≡ before →
    IsExplored r (record { haystack = i.haystack; start = p; anchored = b; kind = i.kind }) found old new between after → IsSearched r i found old new before after
searched_for r i b explores alike p begins found old new before between after same e =
    let hay = i.haystack.now in
    let compiled = e.answered.compiled in
    record {
      answered = answered_by r hay i.start compiled i.anchored b explores p begins i.kind found old new e.answered;
      searched = subst (λ (room : Room). SearchedBy i.anchored r hay i.start found room after) same (searched_by r hay i.start compiled i.anchored b explores p begins found between after e.searched);
      searches = made_as i.kind i.anchored b alike before after (subst (λ (room : Room). MakesAs (record { haystack = i.haystack; start = p; anchored = b; kind = i.kind }) room after) same e.searches);
      fits = e.searched.fits ∙ ap (λ (x : Room). x.fits) same;
    }
