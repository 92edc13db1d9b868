-- Laws of what a regex's searches return.
use Rattle.std.specs.Prelude.{◌≡◌, ℕ, Bool, List, Option, Some, option_map}
use Rattle.bites_spec.specs.Utf8.{AreStarts}
use Rattle.bites_spec.specs.Run.{Run, slots}
use Rattle.bites_spec.specs.Tree.{Tree}
use Rattle.bites_spec.specs.Found.{Answer, FoundSome, Finds}
use Rattle.bites_spec.specs.Slots.{answer_of, group_in, span_of_run}
use Rattle.bites_spec.specs.Regex.{Regex, IsCompiled, run_at}

-- the run that a search of a regex returns is what a search of its tree finds
abbrev pub RunIsFound : Type 0
RunIsFound =
    (r : Regex) → IsCompiled r → (hay : List ℕ) (s : ℕ) (starts : List ℕ) → AreStarts hay s starts →
    Finds r.leftmost_longest r.tree hay starts (option_map (answer_of r.program) (run_at r hay starts))

-- what is found, by either choice of the parse, is some parse from the first place
abbrev pub FindsSome : Type 0
FindsSome = (longest : Bool) (t : Tree) (hay starts : List ℕ) (o : Option Answer) → Finds longest t hay starts o → FoundSome t hay starts o

-- group 0 of the run that a search of a regex returns is where the run begins and ends
abbrev pub AnswersHaveGroup0 : Type 0
AnswersHaveGroup0 =
    (r : Regex) → IsCompiled r → (hay : List ℕ) (s : ℕ) (starts : List ℕ) → AreStarts hay s starts → (x : Run) → run_at r hay starts ≡ Some x →
    group_in (slots r.program x) 0 ≡ Some (span_of_run x)
