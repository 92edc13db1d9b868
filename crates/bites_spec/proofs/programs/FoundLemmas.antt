-- The first, longest or any run of a tree's program is what the corresponding search of the tree finds.
use Rattle.std.specs.Prelude.{◌==◌, if◌then◌else◌}
use Rattle.std.proofs.Common.{cond, eq-eqb, eqb-true, ◌≡◌, ℕ, ◌≤◌, Bool, true, false, List, [], ◌∷◌, ◌++◌, map, Option, Some, None, option_map, refl, sym, ap, ap₂, ◌∙◌, subst, ⊎_elim, true≢false, ◌⊎◌}
use Rattle.std.proofs.lemmas.Option.{none-some, same_Some}
use Rattle.std.proofs.lemmas.Bool.{cases_Bool}
use Rattle.bites_spec.specs.Utf8.{AreStarts}
use Rattle.bites_spec.specs.Walks.{Before}
use Rattle.bites_spec.specs.Tree.{Tree, is_plain}
use Rattle.bites_spec.specs.Match.{Span, Mark, Matches, Parse, groups}
use Rattle.bites_spec.specs.Preference.{ParseTo, parses}
use Rattle.bites_spec.specs.Program.{Program, Configuration, at, IsWellFormed}
use Rattle.bites_spec.specs.Run.{Run, run, writes, leads, IsRun, IsSimple, NoRun, StartsFirst, FirstRun, LeastEnd, LongestRun, first_run}
use Rattle.bites_spec.specs.Built.{Built, IsCompilable}
use Rattle.bites_spec.specs.Found.{NoMatch, IsFirstPlace, Found, FoundLongest, IsLeastEnd, head_of, first_ending, parse_to}
use Rattle.bites_spec.specs.Slots.{HasGroups, answer_of, span_between}
use Rattle.bites_spec.specs.RunLaws.{Group0IsSpan}
use Rattle.bites_spec.proofs.parses.EventLemmas.{Event, opened, closed, writes_of, marks_of, Steps, Steps-Parse}
use Rattle.bites_spec.proofs.programs.OrderLemmas.{TracedParse, Tour, tour_of, wrap, traced_parses, Every}
use Rattle.bites_spec.proofs.programs.TracedParses.{traced_parses_are, parse_of, traced_parses-parses}
use Rattle.bites_spec.proofs.programs.FormOrderLemmas.{all_runs}
use Rattle.bites_spec.proofs.programs.PlainLemmas.{pick, tour, first_is_head, ends_at, simple}
use Rattle.bites_spec.proofs.programs.BuiltLemmas.{run_is_parse, run_is_match, match_is_run, has_groups, whole}
use Rattle.bites_spec.proofs.runs.RunLemmas.{first_run-FirstRun}

span_between-ends : (g : Option Span) (a b : Option ℕ) → a ≡ option_map (λ s. s.start) g → b ≡ option_map (λ s. s.end) g → span_between a b ≡ g
span_between-ends None a b e f = ap₂ span_between e f
span_between-ends (Some s) a b e f = ap₂ span_between e f

-- the first parse of the list whose end passes the test
abbrev pick_parse : (ℕ → Bool) → List ParseTo → Option ParseTo
pick_parse ok [] = None
pick_parse ok (w ∷ ws) = if ok w.end then Some w else pick_parse ok ws

pick_head : (ws : List ParseTo) → pick_parse (λ j. true) ws ≡ head_of ws
pick_head [] = refl
pick_head (w ∷ ws) = refl

pick_ending : (j : ℕ) (ws : List ParseTo) → pick_parse (λ k. k == j) ws ≡ first_ending j ws
pick_ending j [] = refl
pick_ending j (w ∷ ws) = ap (λ o. if w.end == j then Some w else o) (pick_ending j ws)

-- the listed traced parse that makes a picked tour
pub record Picked (ok : ℕ → Bool) (hay : List ℕ) (t : Tree) (i : ℕ) (ws : List TracedParse) (o : Tour) : Type 0 where
  pub parse : TracedParse
  pub steps : Steps hay t i parse.end parse.events
  pub same : tour_of (wrap 0 i parse) ≡ o
  pub first : pick_parse ok (map (parse_of hay) ws) ≡ Some (parse_of hay parse)

pick_parses : (ok : ℕ → Bool) (hay : List ℕ) (t : Tree) (i : ℕ) (ws : List TracedParse) (o : Tour) → Every (λ w. Steps hay t i w.end w.events) ws →
    pick ok (map tour_of (map (wrap 0 i) ws)) ≡ Some o → Picked ok hay t i ws o
pick_parses ok hay t i [] o are e = absurd (none-some o e)
pick_parses ok hay t i (w ∷ ws) o are e =
    ⊎_elim
    (λ (b : ok w.end ≡ true). record {
      parse = w;
      steps = are.0;
      same = same_Some _ _ (sym (ap (λ c. cond c (Some (tour_of (wrap 0 i w))) (pick ok (map tour_of (map (wrap 0 i) ws)))) b) ∙ e);
      first = ap (λ c. cond c (Some (parse_of hay w)) (pick_parse ok (map (parse_of hay) ws))) b;
    })
    (λ (b : ok w.end ≡ false).
    let m = pick_parses ok hay t i ws o are.1 (sym (ap (λ c. cond c (Some (tour_of (wrap 0 i w))) (pick ok (map tour_of (map (wrap 0 i) ws)))) b) ∙ e) in
    record {
      parse = m.parse;
      steps = m.steps;
      same = m.same;
      first = ap (λ c. cond c (Some (parse_of hay w)) (pick_parse ok (map (parse_of hay) ws))) b ∙ m.first;
    })
    (cases_Bool (ok w.end))

pub unfold_whole : (t : Tree) (p : Program) (hay : List ℕ) (fit : IsCompilable t) (built : Built t p) (i j : ℕ) (inner : List Event) (ws : List (ℕ × ℕ)) →
    ws ≡ writes_of (opened 0 i ∷ (inner ++ closed 0 i j ∷ [])) → ws ≡ writes_of (whole t p hay fit built i j inner)
unfolding whole
unfold_whole t p hay fit built i j inner ws e = e

module _ (t : Tree) (p : Program) (hay : List ℕ) (fit : IsCompilable t) (built : Built t p) where
  -- if the program has no run from a start, the tree does not match from one
  no_match : (ps : List ℕ) → NoRun p hay ps → NoMatch t hay ps
  no_match ps none i among j matches = let x = match_is_run t p hay fit built i j matches in none i among x.0 j x.1

  first_place : (ps : List ℕ) (r : Run) → StartsFirst p hay ps r → IsFirstPlace t hay ps r.start
  first_place ps r starts = record {
    place = starts.from;
    matches = (r.end, run_is_match t p hay fit built r.start r.end r.configurations starts.runs);
    none_before = λ k among lt j matches. let x = match_is_run t p hay fit built k j matches in starts.none_before k among lt x.0 j x.1;
  }

  pub same_groups : (r : Run) (ms : List Mark) → HasGroups p r ms → (k : ℕ) → (answer_of p r).group k ≡ groups r.start r.end ms k
  same_groups r ms has k = span_between-ends (groups r.start r.end ms k) _ _ (has k).0 (has k).1

  -- for a plain tree, the first run whose end passes the test is the first parse whose end does
  pub record Preferred (ok : ℕ → Bool) (r : Run) : Type 0 where
    pub marks : List Mark
    pub parse : Parse hay t r.start r.end marks
    pub has : HasGroups p r marks
    pub first : pick_parse ok (parses hay t r.start) ≡ Some (parse_to r.end marks)

  preferred : (ok : ℕ → Bool) (r : Run) → is_plain t ≡ true → IsRun p hay r.start r.configurations r.end → ok r.end ≡ true →
      ((o : List Configuration) (k : ℕ) → IsRun p hay r.start o k → IsSimple p hay r.start o → ok k ≡ true →
      (o ≡ r.configurations) ⊎ Before (leads p hay) (at p.start r.start) r.configurations o) → Preferred ok r
  preferred ok r plain runs counts first =
      at_parses (pick_parses ok hay t r.start (traced_parses hay t r.start) (tour p hay (at p.start r.start) r.configurations) (traced_parses_are hay t fit.reduced r.start)
      (first_is_head p hay ok (at p.start r.start) (map tour_of (map (wrap 0 r.start) (traced_parses hay t r.start))) r.configurations r.end
      (all_runs p hay t fit.reduced plain built r.start) runs counts first))
    where
      at_parses : Picked ok hay t r.start (traced_parses hay t r.start) (tour p hay (at p.start r.start) r.configurations) → Preferred ok r
      at_parses x =
          let w = x.parse in
          let end : w.end ≡ r.end = ap (λ x. x.end) x.same ∙ ends_at p hay (at p.start r.start) r.configurations r.end runs in
          record {
            marks = marks_of w.events;
            parse = Steps-Parse hay t r.start r.end w.events (subst (λ j. Steps hay t r.start j w.events) end x.steps);
            has = subst (λ j. HasGroups p (run r.start r.configurations j) (marks_of w.events)) end
                (has_groups t p hay fit built r.start w.end r.configurations w.events x.steps
                (unfold_whole t p hay fit built r.start w.end w.events (writes p (at p.start r.start) r.configurations) (sym (ap (λ x. x.writes) x.same))));
            first = ap (pick_parse ok) (sym (traced_parses-parses hay t r.start)) ∙ x.first ∙ ap (λ j. Some (parse_to j (marks_of w.events))) end;
          }

  -- What `FirstRun` specifies for the program, `Found` specifies for the tree.
  pub FirstRun-Found : (ps : List ℕ) (o : Option Run) → FirstRun p hay ps o → Found t hay ps (option_map (answer_of p) o)
  FirstRun-Found ps None none = no_match ps none
  FirstRun-Found ps (Some r) (starts, first) =
      ⊎_elim
      (λ (plain : is_plain t ≡ true).
      let x = preferred (λ j. true) r plain starts.runs refl (λ o k runs simple u. first.first o k runs simple tt) in record {
        first = first_place ps r starts;
        marks = x.marks;
        parse = x.parse;
        groups = same_groups r x.marks x.has;
        chosen = λ u. sym (pick_head (parses hay t r.start)) ∙ x.first;
      })
      (λ (other : is_plain t ≡ false).
      let x = run_is_parse t p hay fit built r.start r.end r.configurations starts.runs in record {
        first = first_place ps r starts;
        marks = x.0;
        parse = x.1;
        groups = same_groups r x.0 x.2;
        chosen = λ plain. absurd (true≢false (sym plain ∙ other));
      })
      (cases_Bool (is_plain t))

  -- What `LongestRun` specifies for the program, `FoundLongest` specifies for the tree.
  pub LongestRun-FoundLongest : (ps : List ℕ) (o : Option Run) → LongestRun p hay ps o → FoundLongest t hay ps (option_map (answer_of p) o)
  LongestRun-FoundLongest ps None none = no_match ps none
  LongestRun-FoundLongest ps (Some r) (starts, longest, first) =
      ⊎_elim
      (λ (plain : is_plain t ≡ true).
      let x = preferred (λ k. k == r.end) r plain starts.runs (eq-eqb r.end r.end refl)
      (λ o k runs simple counts. first.first o k runs simple (eqb-true k r.end counts)) in record {
        first = first_place ps r starts;
        marks = x.marks;
        parse = x.parse;
        groups = same_groups r x.marks x.has;
        chosen = (greatest r longest, λ u. sym (pick_ending r.end (parses hay t r.start)) ∙ x.first);
      })
      (λ (other : is_plain t ≡ false).
      let x = run_is_parse t p hay fit built r.start r.end r.configurations starts.runs in record {
        first = first_place ps r starts;
        marks = x.0;
        parse = x.1;
        groups = same_groups r x.0 x.2;
        chosen = (greatest r longest, λ plain. absurd (true≢false (sym plain ∙ other)));
      })
      (cases_Bool (is_plain t))
    where
      greatest : (r : Run) → ((o : List Configuration) (j : ℕ) → IsRun p hay r.start o j → j ≤ r.end) → (l : ℕ) → Matches hay t r.start l → l ≤ r.end
      greatest r longest l matches = let m = match_is_run t p hay fit built r.start l matches in longest m.0 l m.1

  -- the least end of a run is the least end of a match
  pub LeastEnd-IsLeastEnd : (ps : List ℕ) (o : Option Run) → LeastEnd p hay ps o → IsLeastEnd t hay ps (option_map (λ r. r.end) o)
  LeastEnd-IsLeastEnd ps None none = no_match ps none
  LeastEnd-IsLeastEnd ps (Some r) (runs, among, least) = (
    (r.start, among, run_is_match t p hay fit built r.start r.end r.configurations runs),
    λ i among l matches. let x = match_is_run t p hay fit built i l matches in least i among x.0 l x.1,
  )

  -- every run of a plain tree's program is simple
  pub plain_simple : is_plain t ≡ true → (i j : ℕ) (r : List Configuration) → IsRun p hay i r j → IsSimple p hay i r
  plain_simple plain i j r runs =
      let are = all_runs p hay t fit.reduced plain built i in simple p hay (at p.start i) are.bound are.short r j runs

  -- The first run of a tree's program is what a search of the tree finds, even if the program has cycles.
  pub first_run-Found : IsWellFormed p → (s : ℕ) (ps : List ℕ) → AreStarts hay s ps → Found t hay ps (option_map (answer_of p) (first_run p hay ps))
  first_run-Found well s ps are = FirstRun-Found ps (first_run p hay ps) (first_run-FirstRun p hay well s ps are)

-- in the slots of a run of a tree's program, group 0 is the run's span
pub group_0_is_span : Group0IsSpan
group_0_is_span t p hay fit built r runs =
    let x = run_is_parse t p hay fit built r.start r.end r.configurations runs in same_groups t p hay fit built r x.0 x.2 0
