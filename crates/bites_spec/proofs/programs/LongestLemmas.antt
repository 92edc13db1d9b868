-- `longest_run` returns a longest run as specified, and no other run is one.
use Rattle.std.proofs.Common.{◌≡◌, ℕ, zero, suc, ◌<◌, ◌≤◌, true, false, ◌&&◌, List, [], ◌∷◌, length, Option, Some, None, refl, sym, ap, ap₂, ◌∙◌, subst, ⊎_elim, true≢false, arith, eqb-true, eq-eqb}
use Rattle.std.specs.Prelude.{◌==◌, IsTrue, option_and_then}
use Rattle.std.specs.Option.{option_or}
use Rattle.std.proofs.lemmas.Option.{none-some, same_Some}
use Rattle.std.proofs.lemmas.Bool.{cases_Bool, and_parts}
use Rattle.bites_spec.specs.Utf8.{AreStarts}
use Rattle.bites_spec.specs.Walks.{Among, Walk, Before, last_of}
use Rattle.bites_spec.specs.Walks as walks
use Rattle.bites_spec.specs.Program.{Program, Configuration, at, IsWellFormed}
use Rattle.bites_spec.specs.Run.{Run, run, Runs, IsRun, IsSimple, IsFirstOf, LongestRun, is_same_configuration, leads, matches, is_end_at, enough, run_of, first_run_to, longest_run_below, longest_run}
use Rattle.bites_spec.proofs.utf8.StartLemmas.{starts_rise, start_lies}
use Rattle.bites_spec.proofs.runs.FirstLemmas.{or_cases, or_none, sound, first, none_at_all, Apart-simple, Apart-of}
use Rattle.bites_spec.proofs.runs.RunLemmas.{Inside, unseen, fewer, enough_for_all, inside_on, same_is, same_refl, match_ends, first_place, no_place}
use Rattle.bites_spec.proofs.programs.PlainLemmas.{Before-asym, ends_at}
use Rattle.bites_spec.proofs.programs.OneLemmas.{same_run, same_start}
use Rattle.bites_spec.proofs.runs.PlaceLemmas.{runs_within}

module _ (p : Program) (hay : List ℕ) where
  end_place : (j : ℕ) (s : Configuration) → is_end_at p j s ≡ true → s.place ≡ j
  end_place j s e = eqb-true s.place j (and_parts (matches p s) (s.place == j) e).1

  end_here : (j : ℕ) (s : Configuration) → IsTrue (matches p s) → s.place ≡ j → is_end_at p j s ≡ true
  end_here j s is place = ap₂ ◌&&◌ is (eq-eqb s.place j place)

  ends_nowhere : (j : ℕ) (s : Configuration) → is_end_at p j s ≡ true → leads p hay s ≡ []
  ends_nowhere j s e = match_ends p hay s (and_parts (matches p s) (s.place == j) e).0

  -- a run to j is a walk to an end there, and conversely
  to_end : (j : ℕ) (s : Configuration) (r : List Configuration) → Runs p hay s r j → Walk (leads p hay) (λ q. is_end_at p j q ≡ true) s r
  to_end j s [] runs = end_here j s runs.0 runs.1
  to_end j s (t ∷ r) runs = (runs.0, to_end j t r runs.1)

  from_end : (j : ℕ) (s : Configuration) (r : List Configuration) → Walk (leads p hay) (λ q. is_end_at p j q ≡ true) s r → Runs p hay s r j
  from_end j s [] walk = ((and_parts (matches p s) (s.place == j) walk).0, end_place j s walk)
  from_end j s (t ∷ r) walk = (walk.0, from_end j t r walk.1)

  abbrev pub walk_to : ℕ → ℕ → Option (List Configuration)
  walk_to i j = walks.first_walk is_same_configuration (leads p hay) (is_end_at p j) (enough p hay) (λ s. false) (at p.start i)

  -- no run goes from i to j
  abbrev pub NoRunTo : ℕ → ℕ → Type 0
  NoRunTo i j = (o : List Configuration) → IsRun p hay i o j → ⊥

  -- the first of the simple runs from i to the greatest end below n
  pub record IsLongestBelow (n i : ℕ) (r : Run) : Type 0 where
    pub start : r.start ≡ i
    pub runs : IsRun p hay r.start r.configurations r.end
    pub below : r.end < n
    pub greatest : (o : List Configuration) (j : ℕ) → IsRun p hay r.start o j → j < n → j ≤ r.end
    pub first_of : IsFirstOf p hay (λ j. j ≡ r.end) r

  -- a walk that is found makes the run to j
  pub walk_makes_run : (i j : ℕ) (configurations : List Configuration) → walk_to i j ≡ Some (at p.start i ∷ configurations) → first_run_to p hay i j ≡ Some (run i configurations j)
  unfolding first_run_to
  walk_makes_run i j configurations found =
      let h = sound is_same_configuration (leads p hay) (is_end_at p j) same_is same_refl (ends_nowhere j) (enough p hay) (λ s. false) (at p.start i) (at p.start i ∷ configurations) found in
      let same : h.0 ≡ configurations = behind (at p.start i) h.0 configurations (sym h.1) in
      let runs : IsRun p hay i configurations j = subst (λ r. IsRun p hay i r j) same (from_end j (at p.start i) h.0 h.2) in
      ap (option_and_then (run_of p hay i)) found ∙ ap (λ k. Some (run i configurations k)) (ends_at p hay (at p.start i) configurations j runs)
    where
      behind : (s : Configuration) (a b : List Configuration) → s ∷ a ≡ s ∷ b → a ≡ b
      behind s a b e = cc

  pub no_walk_no_run : (i j : ℕ) → walk_to i j ≡ None → first_run_to p hay i j ≡ None
  unfolding first_run_to
  no_walk_no_run i j none = ap (option_and_then (run_of p hay i)) none

  module _ (well : IsWellFormed p) where
    found_walk : (i j : ℕ) (r : Run) (o : Option (List Configuration)) → walk_to i j ≡ o → option_and_then (run_of p hay i) o ≡ Some r → i ≤ length hay →
        (configurations : List Configuration) × (run i configurations j ≡ r) × IsRun p hay i configurations j × IsFirstOf p hay (λ k. k ≡ j) (run i configurations j)
    found_walk i j r None is e le = absurd (none-some r e)
    found_walk i j r (Some l) is e le =
        let h = sound is_same_configuration (leads p hay) (is_end_at p j) same_is same_refl (ends_nowhere j) (enough p hay) (λ s. false) (at p.start i) l is in
        let runs : IsRun p hay i h.0 j = from_end j (at p.start i) h.0 h.2 in
        let made : run i h.0 (last_of (at p.start i) h.0).place ≡ r = same_Some _ _ (sym (ap (run_of p hay i) h.1) ∙ e) in (
          h.0,
          ap (run i h.0) (sym (ends_at p hay (at p.start i) h.0 j runs)) ∙ made,
          runs,
          record {
            simple = Apart-simple is_same_configuration (leads p hay) (is_end_at p j) same_is same_refl (ends_nowhere j) (λ s. false) (at p.start i) h.0 h.3;
            first = λ o k runs simple wanted.
                first is_same_configuration (leads p hay) (is_end_at p j) same_is same_refl (ends_nowhere j)
                (Inside p hay) (inside_on p hay well) (unseen p hay) (fewer p hay) (enough p hay) (λ s. false) (at p.start i) h.0
                (well.start, le) (enough_for_all p hay (λ s. false)) (is ∙ ap Some h.1) o
                (to_end j (at p.start i) o (subst (λ n. IsRun p hay i o n) wanted runs))
                (Apart-of is_same_configuration (leads p hay) (is_end_at p j) same_is same_refl (ends_nowhere j) (λ s. false) (at p.start i) o simple (λ q h. refl));
          },
        )

    no_walk : (i j : ℕ) (o : Option (List Configuration)) → walk_to i j ≡ o → option_and_then (run_of p hay i) o ≡ None → i ≤ length hay → NoRunTo i j
    no_walk i j None is e le r runs =
        none_at_all is_same_configuration (leads p hay) (is_end_at p j) same_is same_refl (ends_nowhere j)
        (Inside p hay) (inside_on p hay well) (unseen p hay) (fewer p hay) (enough p hay) (λ s. false) (at p.start i)
        (well.start, le) (enough_for_all p hay (λ s. false)) is (λ q. refl) r (to_end j (at p.start i) r runs)
    no_walk i j (Some l) is e le r runs =
        let h = sound is_same_configuration (leads p hay) (is_end_at p j) same_is same_refl (ends_nowhere j) (enough p hay) (λ s. false) (at p.start i) l is in
        absurd (none-some _ (sym e ∙ ap (run_of p hay i) h.1))

    -- to one place: the run that is found is the first simple one
    pub run_to : (i j : ℕ) (r : Run) → first_run_to p hay i j ≡ Some r → i ≤ length hay →
        (configurations : List Configuration) × (run i configurations j ≡ r) × IsRun p hay i configurations j × IsFirstOf p hay (λ k. k ≡ j) (run i configurations j)
    unfolding first_run_to
    run_to i j r e le = found_walk i j r (walk_to i j) refl e le

    pub no_run_to : (i j : ℕ) → first_run_to p hay i j ≡ None → i ≤ length hay → NoRunTo i j
    unfolding first_run_to
    no_run_to i j e le = no_walk i j (walk_to i j) refl e le

    -- below n: where none is found, there is none
    pub below_none : (n i : ℕ) → longest_run_below p hay n i ≡ None → i ≤ length hay → (j : ℕ) → j < n → NoRunTo i j
    unfolding longest_run_below
    below_none zero i e le j lt o runs = omega (arith, lt)
    below_none (suc n) i e le j lt o runs =
        let parts = or_none (first_run_to p hay i n) (longest_run_below p hay n i) e in
        ⊎_elim (λ (is : (j == n) ≡ true). no_run_to i n parts.0 le o (subst (λ k. IsRun p hay i o k) (eqb-true j n is) runs))
        (λ (is : (j == n) ≡ false). below_none n i parts.1 le j (less j n lt is) o runs)
        (cases_Bool (j == n))
      where
        less : (j n : ℕ) → j < suc n → (j == n) ≡ false → j < n
        less j n lt is = let other : j ≡ n → ⊥ = (λ e. true≢false (sym (eq-eqb j n e) ∙ is)) in omega (arith, lt, other)

    pub below_some : (n i : ℕ) (r : Run) → longest_run_below p hay n i ≡ Some r → i ≤ length hay → IsLongestBelow n i r
    unfolding longest_run_below
    below_some zero i r e le = absurd (none-some r e)
    below_some (suc n) i r e le =
        ⊎_elim
        (λ (now : first_run_to p hay i n ≡ Some r).
        let x = run_to i n r now le in
        subst (λ (y : Run). IsLongestBelow (suc n) i y) x.1 record {
          start = refl;
          runs = x.2;
          below = omega arith;
          greatest = λ o j runs lt. omega (arith, lt);
          first_of = x.3;
        })
        (λ later.
        let m = below_some n i r later.1 le in record {
          start = m.start;
          runs = m.runs;
          below = let lt = m.below in omega (arith, lt);
          greatest = λ o j runs lt.
              ⊎_elim
              (λ (is : (j == n) ≡ true).
              absurd (no_run_to i n later.0 le o
              (subst (λ (k : ℕ). IsRun p hay k o n) m.start (subst (λ k. IsRun p hay r.start o k) (eqb-true j n is) runs))))
              (λ (is : (j == n) ≡ false). m.greatest o j runs (less j n lt is))
              (cases_Bool (j == n));
          first_of = m.first_of;
        })
        (or_cases (first_run_to p hay i n) (longest_run_below p hay n i) r e)
      where
        less : (j n : ℕ) → j < suc n → (j == n) ≡ false → j < n
        less j n lt is = let other : j ≡ n → ⊥ = (λ e. true≢false (sym (eq-eqb j n e) ∙ is)) in omega (arith, lt, other)

    -- a run from a place of the haystack ends within it
    pub ends_below : (i : ℕ) (o : List Configuration) (j : ℕ) → i ≤ length hay → IsRun p hay i o j → j < suc (length hay)
    ends_below i o j le runs = let within = runs_within p hay well (at p.start i) o j (well.start, le) runs in omega (arith, within)

    module _ (s : ℕ) (ps : List ℕ) (are : AreStarts hay s ps) where
      within : (i : ℕ) → Among ps i → i ≤ length hay
      within i h = (start_lies hay s ps are i h).1

      longest_run_is : (o : Option Run) → longest_run p hay ps ≡ o → LongestRun p hay ps o
      unfolding longest_run
      longest_run_is None e =
          λ i h r j runs.
          below_none (suc (length hay)) i (no_place (longest_run_below p hay (suc (length hay))) _ e i h) (within i h) j (ends_below i r j (within i h) runs) r runs
      longest_run_is (Some r) e =
          let at_first = first_place (longest_run_below p hay (suc (length hay))) ps r (starts_rise hay s ps are) e in
          let le = within at_first.place at_first.among in
          let from = below_some (suc (length hay)) at_first.place r at_first.is le in (
            record {
              runs = from.runs;
              from = subst (λ i. Among ps i) (sym from.start) at_first.among;
              none_before = λ i h lt o j runs.
                  below_none (suc (length hay)) i (at_first.none_before i h (omega (arith, lt, from.start))) (within i h) j (ends_below i o j (within i h) runs) o runs;
            },
            λ o j runs. from.greatest o j runs (ends_below r.start o j (omega (arith, le, from.start)) runs),
            from.first_of,
          )

      -- `longest_run` is None where no start has a run; else it is the longest from the first start that has one
      pub longest_run-LongestRun : LongestRun p hay ps (longest_run p hay ps)
      longest_run-LongestRun = longest_run_is (longest_run p hay ps) refl

  one_longest : (ps : List ℕ) (a b : Run) → LongestRun p hay ps (Some a) → LongestRun p hay ps (Some b) → a ≡ b
  one_longest ps a b (x, longest_a, f) (y, longest_b, g) =
      let start = same_start p hay ps a b x y in
      let theirs : IsRun p hay a.start b.configurations b.end = subst (λ i. IsRun p hay i b.configurations b.end) (sym start) y.runs in
      let mine : IsRun p hay b.start a.configurations a.end = subst (λ i. IsRun p hay i a.configurations a.end) start x.runs in
      let one = longest_a b.configurations b.end theirs in
      let two = longest_b a.configurations a.end mine in
      let end : a.end ≡ b.end = omega (arith, one, two) in
      let configurations : a.configurations ≡ b.configurations =
      ⊎_elim (λ (e : b.configurations ≡ a.configurations). sym e)
      (λ bef. ⊎_elim (λ (e : a.configurations ≡ b.configurations). e)
      (λ also. absurd (Before-asym (leads p hay) (at p.start a.start) a.configurations b.configurations bef
      (subst (λ i. Before (leads p hay) (at p.start i) b.configurations a.configurations) (sym start) also)))
      (g.first a.configurations a.end mine (subst (λ i. IsSimple p hay i a.configurations) start f.simple) end))
      (f.first b.configurations b.end theirs (subst (λ i. IsSimple p hay i b.configurations) (sym start) g.simple) (sym end)) in
      same_run a.start b.start a.end b.end a.configurations b.configurations start configurations end

  -- at most one result is the longest run
  pub one_longest_answer : (ps : List ℕ) (o q : Option Run) → LongestRun p hay ps o → LongestRun p hay ps q → o ≡ q
  one_longest_answer ps None None x y = refl
  one_longest_answer ps None (Some b) x y = absurd (x b.start y.0.from b.configurations b.end y.0.runs)
  one_longest_answer ps (Some a) None x y = absurd (y a.start x.0.from a.configurations a.end x.0.runs)
  one_longest_answer ps (Some a) (Some b) x y = ap Some (one_longest ps a b x y)

  pub LongestRun-longest_run : IsWellFormed p → (s : ℕ) (ps : List ℕ) → AreStarts hay s ps → (o : Option Run) → LongestRun p hay ps o → o ≡ longest_run p hay ps
  LongestRun-longest_run well s ps are o x = one_longest_answer ps o (longest_run p hay ps) x (longest_run-LongestRun well s ps are)

  -- the bound may be one above the end that is found
  pub below_found : (i j : ℕ) (r : Run) → first_run_to p hay i j ≡ Some r → longest_run_below p hay (suc j) i ≡ Some r
  unfolding longest_run_below
  below_found i j r found = ap (λ o. option_or o (longest_run_below p hay j i)) found

  pub below_next : (i j : ℕ) → first_run_to p hay i j ≡ None → longest_run_below p hay (suc j) i ≡ longest_run_below p hay j i
  unfolding longest_run_below
  below_next i j none = ap (λ o. option_or o (longest_run_below p hay j i)) none
