-- Steps that move the rows of registers, one after another. One register more than thread lists have is spare.
use Rattle.std.specs.Prelude.{Option, ◌≡◌, ◌≢◌, ℕ, ◌<◌, true, false, List, [], ◌∷◌, map, length, Some, slice_index_or, slice_set}
use Rattle.std.specs.List.{range_with_len}
use Rattle.bites_spec.specs.Walks.{Among}
use Rattle.bites_machine.specs.Resume.{row_in}
use Rattle.bites_table.specs.Sources.{Source, unwritten, row_of_register, write, row_at}
use Rattle.bites_table.specs.Transition.{source_at}
use Rattle.bites_table.specs.Built.{source_of}
use Rattle.bites_table.specs.declared.thread_list.Source as code
use Rattle.bites_table.specs.declared.steps.Step.{Step}
use Rattle.bites_table.specs.declared.steps.Step.TheVariants.{Copy, Blank, Write}
use Rattle.bites_table.specs.declared.table.sequence.Order.{Order}

-- how many registers a thread list has at most; the spare register has this number
abbrev pub most_registers : ℕ
most_registers = 64

-- the number of registers with the spare one
abbrev pub with_spare : ℕ
with_spare = 65

-- each register with its own row
unfoldable pub own_rows : List Source
own_rows = map row_of_register (range_with_len 0 with_spare)

-- what a step leaves in the registers
abbrev pub after_step : Step → List Source → List Source
after_step (Copy to from) ss = slice_set ss to (source_at ss from)
after_step (Blank to) ss = slice_set ss to unwritten
after_step (Write register slot) ss = slice_set ss register (write slot (source_at ss register))

abbrev pub after_steps : List Step → List Source → List Source
after_steps [] ss = ss
after_steps (s ∷ steps) ss = after_steps steps (after_step s ss)

-- the registers that a step names are there
abbrev pub NamesRegisters : Step → Type 0
NamesRegisters (Copy to from) = (to < with_spare) × (from < with_spare)
NamesRegisters (Blank to) = to < with_spare
NamesRegisters (Write register slot) = register < with_spare

abbrev pub NameRegisters : List Step → Type 0
NameRegisters steps = (s : Step) → Among steps s → NamesRegisters s

-- the steps leave in each register what the moves say of it
abbrev pub MakeMoves : List Step → List Source → Type 0
MakeMoves steps moves = (r : ℕ) → r < length moves → source_at (after_steps steps own_rows) r ≡ source_at moves r

-- what steps leave in the registers, each of which has its own row before
abbrev pub sources_after : List Step → List Source
sources_after steps = after_steps steps own_rows

-- the row that a source comes from
abbrev pub base_of : code.Source → Source
base_of s = record { register = s.register; writes = λ k. false }

-- the second steps leave a source in a register, and in the others what the first do
pub record Gives (old new : List Step) (register : ℕ) (s : Source) : Type 0 where
  pub names : NameRegisters old → NameRegisters new
  pub own : source_at (sources_after new) register ≡ s
  pub others : (r : ℕ) → r ≢ register → source_at (sources_after new) r ≡ source_at (sources_after old) r

-- the registers that are left have their own rows, and the spare one has that of the register which was copied to it
pub record HasRows (o : Order) (steps : List Step) : Type 0 where
  pub left : (r : ℕ) → r < most_registers → slice_index_or o.is_done r false ≡ false → source_at (sources_after steps) r ≡ row_of_register r
  pub spared : (r : ℕ) → o.spared ≡ Some r → source_at (sources_after steps) most_registers ≡ row_of_register r

-- the same; and the registers that are done have what the moves say
pub record IsOrder (moves : List code.Source) (o : Order) (steps : List Step) : Type 0 where
  pub names : NameRegisters steps
  pub rows : HasRows o steps
  pub done : (r : ℕ) → slice_index_or o.is_done r false ≡ true → source_at (sources_after steps) r ≡ source_at (map source_of moves) r
  pub len : length o.is_done ≡ most_registers

-- the rows of all registers are those of these sources, over the registers before
abbrev pub AreRows : List (Option ℕ) → ℕ → ℕ → List Source → List (Option ℕ) → Type 0
AreRows before width place ss registers =
    (r : ℕ) → r < with_spare → row_in registers width r ≡ row_at width place (row_in before width) (source_at ss r)
