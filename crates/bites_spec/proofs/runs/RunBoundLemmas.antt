-- A run lies in the haystack, and its slots lie between its ends.
use Rattle.std.proofs.lemmas.Grind.{common_steps}
use Rattle.std.proofs.Common.{◌≡◌, ℕ, ◌≤◌, Bool, true, false, cond, List, [], ◌∷◌, ◌++◌, Some, None, sym, ◌∙◌, ⊎_elim, arith}
use Rattle.std.specs.Prelude.{◌==◌, if◌then◌else◌}
use Rattle.std.proofs.lemmas.Option.{none-some, same_Some}
use Rattle.bites_spec.specs.Program.{State, Program, Configuration, at}
use Rattle.bites_spec.specs.Program as program
use Rattle.bites_spec.specs.Run.{Runs, write_of, last_write, writes}
use Rattle.bites_spec.specs.RunLaws.{RunLies}
use Rattle.bites_spec.proofs.utf8.PieceLemmas.{Among-places}
use Rattle.bites_spec.proofs.runs.FirstLemmas.{or_cases}
use Rattle.bites_spec.proofs.runs.ValueLemmas.{slots_are_written}
use Rattle.bites_spec.proofs.runs.PlaceLemmas.{edge_next, runs_forward, runs_to_place, runs_within}

-- all writes are of places between i and j
abbrev AllBetween : ℕ → ℕ → List (ℕ × ℕ) → Type 0
AllBetween i j [] = Unit {0}
AllBetween i j (w ∷ ws) = ((i ≤ w.1) × (w.1 ≤ j)) × AllBetween i j ws

AllBetween-append : (i j : ℕ) (a b : List (ℕ × ℕ)) → AllBetween i j a → AllBetween i j b → AllBetween i j (a ++ b)
AllBetween-append i j [] b x y = y
AllBetween-append i j (w ∷ a) b x y = (x.0, AllBetween-append i j a b x.1 y)

AllBetween-from : (i k j : ℕ) (ws : List (ℕ × ℕ)) → i ≤ k → AllBetween k j ws → AllBetween i j ws
AllBetween-from i k j [] le all = tt
AllBetween-from i k j (w ∷ ws) le all = let one = all.0.0 in ((omega (arith, le, one), all.0.1), AllBetween-from i k j ws le all.1)

last_between : (i j k l : ℕ) (ws : List (ℕ × ℕ)) → AllBetween i j ws → last_write ws k ≡ Some l → (i ≤ l) × (l ≤ j)
last_between i j k l [] all e = absurd (none-some l e)
last_between i j k l (w ∷ ws) all e =
    ⊎_elim (λ later. last_between i j k l ws all.1 later)
    (λ here. at_test (w.0 == k) here.1)
    (or_cases (last_write ws k) (if w.0 == k then Some w.1 else None) l e)
  where
    at_test : (b : Bool) → cond b (Some w.1) None ≡ Some l → (i ≤ l) × (l ≤ j)
    at_test true h = let same = same_Some w.1 l h in let one = all.0.0 in let two = all.0.1 in (omega (arith, one, same), omega (arith, two, same))
    at_test false h = absurd (none-some l h)

write_at : (s : State) (i j : ℕ) → i ≤ j → AllBetween i j (write_of s i)
write_at (program.capture q k) i j le = ((omega arith, le), tt)
write_at (program.char q c) i j le = tt
write_at (program.ranges q rs) i j le = tt
write_at (program.splits qs b) i j le = tt
write_at (program.goto q l) i j le = tt
write_at program.fail i j le = tt
write_at program.match i j le = tt

module _ (p : Program) (hay : List ℕ) where
  writes_between : (s : Configuration) (r : List Configuration) (j : ℕ) → Runs p hay s r j → AllBetween s.place j (writes p s r)
  writes_between s [] j runs = tt
  writes_between s (t ∷ r) j runs = grind (arith, common_steps, AllBetween-append, write_at, runs_forward, AllBetween-from, edge_next, (writes_between t r j runs.1))

pub run_lies : RunLies
run_lies p hay well s r among runs =
    let from = Among-places hay s r.start among in (
      (from.0, runs_forward p hay (at p.start r.start) r.configurations r.end runs, runs_within p hay well (at p.start r.start) r.configurations r.end (well.start, from.1) runs),
      runs_to_place p hay s (at p.start r.start) r.configurations r.end among runs,
      λ k i is.
          last_between r.start r.end k i (writes p (at p.start r.start) r.configurations) (writes_between p hay (at p.start r.start) r.configurations r.end runs)
          (sym (slots_are_written p well r k) ∙ is),
    )
