-- Threads that hold no row of slots, but what stands for one.
use Rattle.std.specs.Prelude.{ℕ, suc, Bool, false, ◌||◌, List, [], ◌∷◌, map, Option, Some, None, if◌then◌else◌, ◌==◌, replicate}
use Rattle.std.specs.Option.{option_map_or}
use Rattle.bites_spec.specs.Program.{State, capture}
use Rattle.bites_spec.specs.Closure as closure
use Rattle.bites_spec.specs.PikeVm as vm

-- A thread: the state that it continues from, and what stands for its row. That is a register in a thread list, and a source in a
-- walk.
pub record Thread (R : Type 0) : Type 0 where
  pub state : ℕ
  pub row : R

-- a thread with that row
abbrev pub thread_with : {R : Type 0} → R → ℕ → Thread R
thread_with r q = record { state = q; row = r }

-- the thread with another row
abbrev pub on_row : {R S : Type 0} → (R → S) → Thread R → Thread S
on_row f t = record { state = t.state; row = f t.row }

-- Where a row comes from: from a register, or if there is none from the row in which nothing is written; and which slots are written
-- at this place.
pub record Source : Type 0 where
  pub register : Option ℕ
  pub writes : ℕ → Bool

-- the row in which nothing is written
abbrev pub unwritten : Source
unwritten = record { register = None; writes = λ k. false }

-- the row of a register as it is
abbrev pub row_of_register : ℕ → Source
row_of_register r = record { register = Some r; writes = λ k. false }

-- one more slot is written
abbrev pub write : ℕ → Source → Source
write slot s = record { register = s.register; writes = λ k. (k == slot) || s.writes k }

-- the source, with what a state writes
abbrev pub written_by : State → Source → Source
written_by (capture q slot) s = write slot s
written_by _ s = s

-- a match leaves no thread, or all of them where it cuts off none
abbrev pub kept : Bool → Option (Thread Source) → List (Thread Source) → List (Thread Source)
kept cuts None ts = ts
kept cuts (Some first_match) ts = if cuts then [] else ts

-- what threads with sources do where states lead so
abbrev pub threads_by : Bool → (State → List ℕ) → closure.Threads (Thread Source)
threads_by cuts leads = record {
  state = λ t. t.state;
  moved = λ st t. map (thread_with (written_by st t.row)) (leads st);
  kept = kept cuts;
}

-- the slots from a on, those that are written with the place
abbrev pub slots_from : ℕ → (ℕ → Bool) → ℕ → List (Option ℕ) → List (Option ℕ)
slots_from i writes a [] = []
slots_from i writes a (x ∷ xs) = (if writes a then Some i else x) ∷ slots_from i writes (suc a) xs

-- the row that a source stands for, by the number of slots, the place, and the rows of the registers
abbrev pub row_at : ℕ → ℕ → (ℕ → List (Option ℕ)) → Source → List (Option ℕ)
row_at width i registers s = slots_from i s.writes 0 (option_map_or registers s.register (replicate width None))

-- the thread of the Pike VM, started at this place, that a thread stands for
abbrev pub thread_of : {R : Type 0} → ℕ → (R → List (Option ℕ)) → Thread R → vm.Thread
thread_of start row t = record { state = t.state; start = start; slots = row t.row }
