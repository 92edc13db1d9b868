-- The first run over the whole haystack is what a match of the whole haystack finds.
use Rattle.std.proofs.lemmas.Grind.{common_steps}
use Rattle.std.proofs.Common.{◌≡◌, ℕ, suc, List, length, Option, Some, None, option_map, refl, sym, ap, ap₂, ◌∙◌, subst, true≢false, arith}
use Rattle.bites_spec.specs.Utf8.{start_alone}
use Rattle.bites_spec.specs.Walks.{first_among}
use Rattle.bites_spec.specs.Tree.{Tree}
use Rattle.bites_spec.specs.Match.{Parse, groups}
use Rattle.bites_spec.specs.Preference.{parses}
use Rattle.bites_spec.specs.Program.{Program, IsWellFormed}
use Rattle.bites_spec.specs.Built.{Built, IsCompilable}
use Rattle.bites_spec.specs.Run.{Run, LongestRun, slots, first_run_to, longest_run, longest_run_below}
use Rattle.bites_spec.specs.Slots.{answer_of}
use Rattle.bites_spec.specs.Found.{first_ending, parse_to}
use Rattle.bites_spec.specs.Regex.{Regex, IsCompiled}
use Rattle.bites_spec.specs.Full.{FoundFull, full_run, FindsGroupsFull}
use Rattle.bites_spec.specs.FullLaws.{FullRunIsFound, FullSlotsAreGroups, FullFindsSome, FullIsFound}
use Rattle.bites_spec.proofs.utf8.StartLemmas.{start_is_alone, alone_within}
use Rattle.bites_spec.proofs.regex.CallerLemmas.{start_is_place}
use Rattle.bites_spec.proofs.programs.LongestLemmas.{below_some, ends_below, run_to, no_run_to, below_found, below_next}
use Rattle.bites_spec.proofs.programs.SlotLemmas.{or_none}
use Rattle.bites_spec.proofs.programs.BuiltLemmas.{match_is_run}
use Rattle.bites_spec.proofs.programs.FoundLemmas.{LongestRun-FoundLongest}
use Rattle.bites_spec.proofs.parses.EventLemmas.{Parse-Matches}
use Rattle.bites_spec.proofs.regex.RegexRuns.{Begins, are_groups, run-whole}

module _ (p : Program) (hay : List ℕ) where
  -- the longest run from the start of the haystack alone
  alone_is : longest_run p hay (start_alone hay 0) ≡ longest_run_below p hay (suc (length hay)) 0
  unfolding longest_run
  alone_is = ap (first_among (longest_run_below p hay (suc (length hay)))) (alone_within hay 0 (omega arith)) ∙ or_none _

  module _ (well : IsWellFormed p) where
    -- the first run over the whole haystack is the longest of all from its start
    full_is : (x : Run) → first_run_to p hay 0 (length hay) ≡ Some x → (x.start ≡ 0) × (x.end ≡ length hay) × LongestRun p hay (start_alone hay 0) (Some x)
    full_is x e =
        let r = run_to p hay well 0 (length hay) x e (omega arith) in
        subst (λ (y : Run). (y.start ≡ 0) × (y.end ≡ length hay) × LongestRun p hay (start_alone hay 0) (Some y)) r.1 (
          refl,
          refl,
          (
            record {
              runs = r.2;
              from = (start_is_alone hay 0 0).1 (refl, omega arith);
              none_before = λ i among lt. absurd (omega (arith, lt));
            },
            λ o j runs. let below = ends_below p hay well 0 o j (omega arith) runs in omega arith,
            r.3,
          ),
        )

    -- The longest run from the start of the haystack is the first over the whole of it, if it ends there; else there is none.
    pub longest_full : (x : Run) → longest_run p hay (start_alone hay 0) ≡ Some x → x.end ≡ length hay → first_run_to p hay 0 (length hay) ≡ Some x
    longest_full x e end = by_answer (first_run_to p hay 0 (length hay)) refl
      where
        below : longest_run_below p hay (suc (length hay)) 0 ≡ Some x
        below = sym alone_is ∙ e

        by_answer : (o : Option Run) → first_run_to p hay 0 (length hay) ≡ o → o ≡ Some x
        by_answer None none =
            let b = below_some p hay well (length hay) 0 x (sym (below_next p hay 0 (length hay) none) ∙ below) (omega arith) in
            let lt = b.below in absurd (omega arith)
        by_answer (Some y) some = sym (below_found p hay 0 (length hay) y some) ∙ below

    pub longest_not_full : (o : Option Run) → longest_run p hay (start_alone hay 0) ≡ o → ((x : Run) → o ≡ Some x → x.end ≡ length hay → ⊥) →
        first_run_to p hay 0 (length hay) ≡ None
    longest_not_full o e never = by_answer (first_run_to p hay 0 (length hay)) refl
      where
        by_answer : (q : Option Run) → first_run_to p hay 0 (length hay) ≡ q → q ≡ None
        by_answer None none = refl
        by_answer (Some y) some = absurd (never y (sym e ∙ alone_is ∙ below_found p hay 0 (length hay) y some) (full_is y some).1)

module _ (t : Tree) (p : Program) (hay : List ℕ) (fit : IsCompilable t) (built : Built t p) (well : IsWellFormed p) where
  full_found : (o : Option Run) → first_run_to p hay 0 (length hay) ≡ o → FoundFull t hay (option_map (answer_of p) o)
  full_found None e = λ matches. let m = match_is_run t p hay fit built 0 (length hay) matches in no_run_to p hay well 0 (length hay) e (omega arith) m.0 m.1
  full_found (Some x) e =
      let is = full_is p hay well x e in
      let f = LongestRun-FoundLongest t p hay fit built (start_alone hay 0) (Some x) is.2 in record {
        start = is.0;
        end = is.1;
        marks = f.marks;
        parse = subst (λ (i : ℕ). Parse hay t i (length hay) f.marks) is.0 (subst (λ (j : ℕ). Parse hay t x.start j f.marks) is.1 f.parse);
        groups = λ k. f.groups k ∙ ap₂ (λ (i j : ℕ). groups i j f.marks k) is.0 is.1;
        chosen = λ plain. subst (λ (i : ℕ). first_ending (length hay) (parses hay t i) ≡ Some (parse_to (length hay) f.marks)) is.0
            (subst (λ (j : ℕ). first_ending j (parses hay t x.start) ≡ Some (parse_to j f.marks)) is.1 (f.chosen.1 plain));
      }

module _ (r : Regex) (is : IsCompiled r) (hay : List ℕ) where
  full_begins : (x : Run) → full_run r hay ≡ Some x → Begins r is hay x
  full_begins x e =
      let b = full_is r.program hay is.well_formed x e in let start = b.0 in (omega arith, b.2.0.runs)

  full_by : (o : Option Run) → full_run r hay ≡ o → FoundFull r.tree hay (option_map (answer_of r.program) o)
  full_by o e = full_found r.tree r.program hay is.compilable is.built is.well_formed o e

  groups_full_by : (o : Option Run) → full_run r hay ≡ o → FindsGroupsFull r hay (option_map (slots r.program) o)
  groups_full_by None e = full_by None e
  groups_full_by (Some x) e =
      let b = full_begins x e in
      record { answer = answer_of r.program x; found = full_by (Some x) e; in_slots = (run-whole r is hay x b.0 b.1, λ k. refl) }

pub full_run_is_found : FullRunIsFound
full_run_is_found r is hay = (full_by r is hay (full_run r hay) refl, groups_full_by r is hay (full_run r hay) refl)

pub full_slots_are_groups : FullSlotsAreGroups
full_slots_are_groups r is hay list e = are_groups r is hay (full_run r hay) (λ x h. full_begins r is hay x h) list e

pub full_finds_some : FullFindsSome
full_finds_some t hay None none = (λ e. absurd (true≢false (sym e)), λ matches. absurd (none matches))
full_finds_some t hay (Some a) f = (λ e. Parse-Matches hay t 0 (length hay) f.marks f.parse, λ matches. refl)

pub full_is_found : FullIsFound
full_is_found t hay a f = grind (arith, common_steps, start_is_place, Parse-Matches)
