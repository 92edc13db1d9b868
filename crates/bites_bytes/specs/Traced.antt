-- What a trace of a search says.
use Rattle.std.specs.Prelude.{◌≡◌, ℕ, ◌≤◌, true, false, List, [], ◌∷◌, length, reverse, replicate, Option, None}
use Rattle.bites_spec.specs.Regex.{Regex}
use Rattle.bites_spec.specs.Counts.{Record}
use Rattle.bites_machine.specs.Inputs.{is_longest, is_earliest}
use Rattle.bites_machine.specs.Sweep.{SearchResult}
use Rattle.bites_machine.specs.declared.vm.Input.{Input}
use Rattle.bites_table.specs.Packed.{Packed, IsTableOf}
use Rattle.bites_table.specs.Standing.{Asked}
use Rattle.bites_table.specs.Trace.{LeadTo, asked_of}
use Rattle.bites_table.specs.declared.trace.How.TheVariants.{Walked}
use Rattle.bites_table.specs.declared.trace.TracedSearch.{TracedSearch}
use Rattle.bites_bytes.specs.Calls.{BeginsAt}

-- a search for all slots of the regex from a place on, by a table
abbrev pub asked_by : Regex → List ℕ → ℕ → Packed → Asked
asked_by r hay place x = record {
  program = r.program;
  table = x;
  input = record { hay = hay; start = place; width = r.program.slots; anchored = false; longest = r.leftmost_longest; earliest = false };
  slots = replicate r.program.slots None;
}

-- The regex explored from such a place on, and the machine did this search. Its stretches lead on from there by a table of the program,
-- or are one that is walked.
pub record IsTraced (r : Regex) (hay : List ℕ) (start : ℕ) (t : TracedSearch) : Type 0 where
  pub place : ℕ
  pub begins : BeginsAt r hay start place
  pub searched : place ≤ length hay → (slots : List (Option ℕ)) × (walked : Record)
      × SearchResult r.program hay r.leftmost_longest false false place t.is_found (replicate r.program.slots None) slots walked
  pub lead : r.has_table ≡ true → (x : Packed) × IsTableOf r.program x × (end : ℕ) × LeadTo (asked_by r hay place x) (reverse t.stretches.items) end
  pub walked : r.has_table ≡ false → t.stretches.items ≡ record { from = place; how = Walked } ∷ []

-- The machine did this search of the regex as the input asks, with these slots. Its stretches lead on from the input's start by a table
-- of the program, or are one that is walked.
pub record IsTracedBy (r : Regex) (i : Input) (old : List (Option ℕ)) (t : TracedSearch) : Type 0 where
  pub searched : i.start ≤ length i.haystack.now → (slots : List (Option ℕ)) × (walked : Record)
      × SearchResult r.program i.haystack.now (is_longest i.kind) i.anchored (is_earliest i.kind) i.start t.is_found old slots walked
  pub lead : r.has_table ≡ true → (x : Packed) × IsTableOf r.program x × (end : ℕ) × LeadTo (asked_of r.program x i old) (reverse t.stretches.items) end
  pub walked : r.has_table ≡ false → t.stretches.items ≡ record { from = i.start; how = Walked } ∷ []
