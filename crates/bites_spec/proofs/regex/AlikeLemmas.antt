-- Answers to searches from one start begin at the same place, and none ends before the least end.
use Rattle.std.proofs.lemmas.Grind.{common_steps}
use Rattle.std.proofs.Common.{◌≡◌, ℕ, ◌≤◌, Bool, true, false, List, Option, Some, None, is_some, option_map, refl, ap, subst, arith, ltb-true, ltb-false}
use Rattle.std.proofs.lemmas.Option.{none-some}
use Rattle.bites_spec.specs.Utf8.{AreStarts}
use Rattle.bites_spec.specs.Walks.{Among}
use Rattle.bites_spec.specs.Tree.{Tree}
use Rattle.bites_spec.specs.Program.{Program, Configuration, at, IsWellFormed}
use Rattle.bites_spec.specs.Run.{Run, IsRun, StartsFirst, FirstRun, LeastEnd, LongestRun, first_run, longest_run, chosen_run}
use Rattle.bites_spec.specs.Found.{IsFirstPlace}
use Rattle.bites_spec.specs.FoundLaws.{AnswersBeginAlike, LeastEndIsAtMost}
use Rattle.bites_spec.specs.RunLaws.{ChosenRunLies, RunsBeginAlike, LeastRunEndIsAtMost}
use Rattle.bites_spec.proofs.utf8.StartLemmas.{start_lies}
use Rattle.bites_spec.proofs.parses.EventLemmas.{Parse-Matches}
use Rattle.bites_spec.proofs.runs.RunLemmas.{first_run-FirstRun}
use Rattle.bites_spec.proofs.programs.OneLemmas.{same_start}
use Rattle.bites_spec.proofs.programs.LongestLemmas.{longest_run-LongestRun}
use Rattle.bites_spec.proofs.runs.PlaceLemmas.{runs_forward, runs_within}

-- there is only one first place
one_first_place : (t : Tree) (hay ps : List ℕ) (i k : ℕ) → IsFirstPlace t hay ps i → IsFirstPlace t hay ps k → i ≡ k
one_first_place t hay ps i k a b = grind (arith, common_steps, ltb-true, ltb-false)

pub answers_begin_alike : AnswersBeginAlike
answers_begin_alike t hay ps None None x y = refl
answers_begin_alike t hay ps None (Some b) x y = absurd (x b.start y.first.place b.end (Parse-Matches hay t b.start b.end y.marks y.parse))
answers_begin_alike t hay ps (Some a) None x y = absurd (y a.start x.first.place a.end (Parse-Matches hay t a.start a.end x.marks x.parse))
answers_begin_alike t hay ps (Some a) (Some b) x y = ap Some (one_first_place t hay ps a.start b.start x.first y.first)

pub least_end_is_at_most : LeastEndIsAtMost
least_end_is_at_most t hay ps None None x y = (refl, λ a j e f. absurd (none-some a e))
least_end_is_at_most t hay ps None (Some l) x y = absurd (x y.0.0 y.0.1 l y.0.2)
least_end_is_at_most t hay ps (Some b) None x y = absurd (y b.start x.first.place b.end (Parse-Matches hay t b.start b.end x.marks x.parse))
least_end_is_at_most t hay ps (Some b) (Some l) x y = grind (arith, common_steps, Parse-Matches)

module _ (p : Program) (hay : List ℕ) where
  -- the run begins at the first start that has one, or no start has one
  abbrev Begins : List ℕ → Option Run → Type 0
  Begins ps None = (i : ℕ) → Among ps i → (r : List Configuration) (j : ℕ) → IsRun p hay i r j → ⊥
  Begins ps (Some r) = StartsFirst p hay ps r

  first_begins : (ps : List ℕ) (o : Option Run) → FirstRun p hay ps o → Begins ps o
  first_begins ps None h = h
  first_begins ps (Some r) h = h.0

  longest_begins : (ps : List ℕ) (o : Option Run) → LongestRun p hay ps o → Begins ps o
  longest_begins ps None h = h
  longest_begins ps (Some r) h = h.0

  begin_alike : (ps : List ℕ) (o q : Option Run) → Begins ps o → Begins ps q → option_map (λ r. r.start) o ≡ option_map (λ r. r.start) q
  begin_alike ps None None x y = refl
  begin_alike ps None (Some b) x y = absurd (x b.start y.from b.configurations b.end y.runs)
  begin_alike ps (Some a) None x y = absurd (y a.start x.from a.configurations a.end x.runs)
  begin_alike ps (Some a) (Some b) x y = ap Some (same_start p hay ps a b x y)

  least_at_most : (ps : List ℕ) (o q : Option Run) → LeastEnd p hay ps o → Begins ps q → (is_some o ≡ is_some q) × ((l r : Run) → o ≡ Some l → q ≡ Some r → l.end ≤ r.end)
  least_at_most ps None None x y = (refl, λ l r e f. absurd (none-some l e))
  least_at_most ps None (Some b) x y = absurd (x b.start y.from b.configurations b.end y.runs)
  least_at_most ps (Some a) None x y = absurd (y a.start x.1 a.configurations a.end x.0)
  least_at_most ps (Some a) (Some b) x y = grind (arith, common_steps)

  module _ (well : IsWellFormed p) (s : ℕ) (ps : List ℕ) (are : AreStarts hay s ps) where
    chosen_begins : (longest : Bool) → Begins ps (chosen_run longest p hay ps)
    chosen_begins true = longest_begins ps (longest_run p hay ps) (longest_run-LongestRun p hay well s ps are)
    chosen_begins false = first_begins ps (first_run p hay ps) (first_run-FirstRun p hay well s ps are)

    first_no_later : (r q : Run) → first_run p hay ps ≡ Some r → longest_run p hay ps ≡ Some q → r.end ≤ q.end
    first_no_later r q e f =
        let one = subst (FirstRun p hay ps) e (first_run-FirstRun p hay well s ps are) in
        let two = subst (LongestRun p hay ps) f (longest_run-LongestRun p hay well s ps are) in
        let start = same_start p hay ps r q one.0 two.0 in
        two.1 r.configurations r.end (subst (λ i. IsRun p hay i r.configurations r.end) start one.0.runs)

pub runs_begin_alike : RunsBeginAlike
runs_begin_alike p hay well s ps are = (
  begin_alike p hay ps (longest_run p hay ps) (first_run p hay ps) (chosen_begins p hay well s ps are true) (chosen_begins p hay well s ps are false),
  λ r q e f. first_no_later p hay well s ps are r q e f,
)

pub least_run_end_is_at_most : LeastRunEndIsAtMost
least_run_end_is_at_most p hay well longest s ps are o least =
    least_at_most p hay ps o (chosen_run longest p hay ps) least (chosen_begins p hay well s ps are longest)

pub chosen_run_lies : ChosenRunLies
chosen_run_lies p hay well longest s ps are r is =
    let starts = subst (Begins p hay ps) is (chosen_begins p hay well s ps are longest) in
    let from = start_lies hay s ps are r.start starts.from in (
      starts.from,
      starts.runs,
      (from.0, runs_forward p hay (at p.start r.start) r.configurations r.end starts.runs, runs_within p hay well (at p.start r.start) r.configurations r.end (well.start, from.1) starts.runs),
    )
