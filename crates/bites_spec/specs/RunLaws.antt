-- Laws of runs and their slots.
use Rattle.std.specs.Prelude.{◌≡◌, ℕ, ◌<◌, ◌≤◌, Bool, List, [], length, Option, Some, None, option_map, is_some}
use Rattle.bites_spec.specs.Utf8.{places, AreStarts}
use Rattle.bites_spec.specs.Walks.{Among}
use Rattle.bites_spec.specs.Tree.{Tree, IsPlain}
use Rattle.bites_spec.specs.Program.{Program, IsWellFormed}
use Rattle.bites_spec.specs.Run.{Run, IsRun, AreAllRuns, LongestRun, LeastEnd, first_run, longest_run, chosen_run, slots, written}
use Rattle.bites_spec.specs.Built.{Built, IsCompilable}
use Rattle.bites_spec.specs.Slots.{slot_in, group_in, participating, span_of_run, Correspond}
use Rattle.bites_spec.specs.Preference.{parses}
use Rattle.bites_spec.specs.Spans.{LiesFrom}
use Rattle.bites_spec.specs.Measure.{static_captures_len}
use Rattle.bites_spec.specs.ProgramFaults.{first_fault}
use Rattle.bites_spec.specs.Counts.{Record, IsBounded}

-- on a well-formed program the function finds the first simple run with the greatest end, at the first start that has a run
abbrev pub LongestRunIsLongest : Type 0
LongestRunIsLongest =
    (p : Program) (hay : List ℕ) → IsWellFormed p → (s : ℕ) (starts : List ℕ) → AreStarts hay s starts →
    LongestRun p hay starts (longest_run p hay starts)

-- and no other run is the longest
abbrev pub LongestRunIsOne : Type 0
LongestRunIsOne =
    (p : Program) (hay : List ℕ) → IsWellFormed p → (s : ℕ) (starts : List ℕ) → AreStarts hay s starts →
    (o : Option Run) → LongestRun p hay starts o → o ≡ longest_run p hay starts

-- the slots of a run of a well-formed program hold what the run wrote to each; past the last slot it writes nothing
abbrev pub SlotsAreWritten : Type 0
SlotsAreWritten = (p : Program) → IsWellFormed p → (r : Run) (k : ℕ) → slot_in (slots p r) k ≡ written p r k

-- group 0 in the slots of a run of a tree's program is the span of the run
abbrev pub Group0IsSpan : Type 0
Group0IsSpan =
    (t : Tree) (p : Program) (hay : List ℕ) → IsCompilable t → Built t p → (r : Run) → IsRun p hay r.start r.configurations r.end →
    group_in (slots p r) 0 ≡ Some (span_of_run r)

-- from a start past the end of the haystack there is no place, and a search visits nothing and does not look
abbrev pub NothingPastTheEnd : Type 0
NothingPastTheEnd =
    (p : Program) (hay : List ℕ) (s : ℕ) → length hay < s →
    (places hay s ≡ []) × ((c : Record) → IsBounded p hay s c → (c.visits ≡ []) × (c.looks ≡ 0))

-- no fault is found exactly if the program is well-formed
abbrev pub NoFaultIsWellFormed : Type 0
NoFaultIsWellFormed = (p : Program) → (first_fault p ≡ None → IsWellFormed p) × (IsWellFormed p → first_fault p ≡ None)

-- a run of a well-formed program from a place from s on lies in the haystack and ends at such a place; its slots lie within it
abbrev pub RunLies : Type 0
RunLies =
    (p : Program) (hay : List ℕ) → IsWellFormed p → (s : ℕ) (r : Run) → Among (places hay s) r.start → IsRun p hay r.start r.configurations r.end →
    LiesFrom (length hay) s (span_of_run r) × Among (places hay s) r.end
    × ((k i : ℕ) → slot_in (slots p r) k ≡ Some i → (r.start ≤ i) × (i ≤ r.end))

-- so does the run that a search returns
abbrev pub ChosenRunLies : Type 0
ChosenRunLies =
    (p : Program) (hay : List ℕ) → IsWellFormed p → (longest : Bool) (s : ℕ) (starts : List ℕ) → AreStarts hay s starts →
    (r : Run) → chosen_run longest p hay starts ≡ Some r →
    Among starts r.start × IsRun p hay r.start r.configurations r.end × LiesFrom (length hay) s (span_of_run r)

-- the longest run and the first begin at one place, there is one exactly if there is the other, and the longest ends no earlier
abbrev pub RunsBeginAlike : Type 0
RunsBeginAlike =
    (p : Program) (hay : List ℕ) → IsWellFormed p → (s : ℕ) (starts : List ℕ) → AreStarts hay s starts →
    (option_map (λ r. r.start) (longest_run p hay starts) ≡ option_map (λ r. r.start) (first_run p hay starts))
    × ((r q : Run) → first_run p hay starts ≡ Some r → longest_run p hay starts ≡ Some q → r.end ≤ q.end)

-- there is a least end exactly if there is a run, and it is at most the end of the run that a search returns
abbrev pub LeastRunEndIsAtMost : Type 0
LeastRunEndIsAtMost =
    (p : Program) (hay : List ℕ) → IsWellFormed p → (longest : Bool) (s : ℕ) (starts : List ℕ) → AreStarts hay s starts →
    (o : Option Run) → LeastEnd p hay starts o →
    (is_some o ≡ is_some (chosen_run longest p hay starts))
    × ((l r : Run) → o ≡ Some l → chosen_run longest p hay starts ≡ Some r → l.end ≤ r.end)

-- if the form of a tree says that at least n groups participate, at least n stand in the slots of each run of its program
abbrev pub StaticLenParticipates : Type 0
StaticLenParticipates =
    (t : Tree) (p : Program) (hay : List ℕ) → IsCompilable t → Built t p → (n : ℕ) → static_captures_len t ≡ Some n →
    (r : Run) → IsRun p hay r.start r.configurations r.end → n ≤ length (participating (slots p r))

-- all runs of a plain tree's program from a place, in their order, are all parses in theirs, by their ends and groups
abbrev pub RunsAreParsesInOrder : Type 0
RunsAreParsesInOrder =
    (t : Tree) (p : Program) (hay : List ℕ) → IsCompilable t → Built t p → IsPlain t → (i : ℕ) →
    (rs : List Run) × AreAllRuns p hay i rs × Correspond p rs (parses hay t i)
