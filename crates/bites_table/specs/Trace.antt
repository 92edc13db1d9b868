-- What a trace of a search by a table says.
use Rattle.std.specs.Prelude.{◌≡◌, ℕ, ◌+◌, ◌<◌, List, [], ◌∷◌, length, Option, Some, None}
use Rattle.bites_spec.specs.Utf8.{piece}
use Rattle.bites_spec.specs.Program.{Program}
use Rattle.bites_machine.specs.Inputs.{is_earliest, is_longest}
use Rattle.bites_machine.specs.declared.vm.Input as input
use Rattle.bites_table.specs.Table.{TableSearch, Reached}
use Rattle.bites_table.specs.Packed.{Packed, table_in}
use Rattle.bites_table.specs.Standing.{Asked}
use Rattle.bites_table.specs.declared.search.record.Standing.{Standing}
use Rattle.bites_table.specs.declared.trace.Stretch.{Stretch}
use Rattle.bites_table.specs.declared.trace.How.{How}
use Rattle.bites_table.specs.declared.trace.How.TheVariants.{Walked, Passed, Skipped}

-- The Pike VM comes to this place with the threads of the thread list of this number.
pub record ComesTo (s : Asked) (place list : ℕ) : Type 0 where
  pub places : ℕ
  pub search : TableSearch
  pub reached : Reached s.program (table_in s.table) s.input places search
  pub place_is : search.place ≡ place
  pub list_is : search.list ≡ list

-- how the search came from one place to another: over the one place where the list is the one that is named, over bytes to a place where
-- it is, or as the Pike VM
abbrev pub Says : Asked → ℕ → How → ℕ → Type 0
Says s from Walked to = Unit {0}
Says s from (Passed list) to = ComesTo s from list × (to ≡ from + (piece s.input.hay from).len)
Says s from (Skipped list) to = (from < to) × ComesTo s to list

-- these stretches, the last one first, lead from the start of the search to a place, each on from where the one before it ends
abbrev pub LeadTo : Asked → List Stretch → ℕ → Type 0
LeadTo s [] place = s.input.start ≡ place
LeadTo s (e ∷ es) place = LeadTo s es e.from × Says s e.from e.how place

-- they lead to where the search stands, or to where it ended
abbrev pub LeadSo : Asked → List Stretch → Option Standing → Type 0
LeadSo s es None = (place : ℕ) × LeadTo s es place
LeadSo s es (Some at) = LeadTo s es at.place

-- what is searched, by what the code is given
abbrev pub asked_of : Program → Packed → input.Input → List (Option ℕ) → Asked
asked_of p x i slots = record {
  program = p;
  table = x;
  input = record {
    hay = i.haystack.now;
    start = i.start;
    width = length slots;
    anchored = i.anchored;
    longest = is_longest i.kind;
    earliest = is_earliest i.kind;
  };
  slots = slots;
}
