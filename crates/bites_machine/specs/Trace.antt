-- The record of a history.
use Rattle.std.specs.Prelude.{◌≡◌, ℕ, suc, ◌+◌, List, [], ◌∷◌, ◌++◌, length, map, reverse, Option, Some, None}
use Rattle.std.specs.List.{range_with_len}
use Rattle.bites_spec.specs.Utf8.{places}
use Rattle.bites_spec.specs.Walks.{Among}
use Rattle.bites_spec.specs.Program.{Program, Configuration, at}
use Rattle.bites_spec.specs.Run.{Run, first_run}
use Rattle.bites_spec.specs.Counts.{Record}
use Rattle.bites_machine.specs.declared.vm.recorded.FirstRun.{FirstRun}
use Rattle.bites_machine.specs.declared.vm.counted.History.{History}
use Rattle.bites_machine.specs.declared.vm.counted.History.TheOpen.{History-F}
use Rattle.bites_machine.specs.declared.vm.counted.History.TheFolds.{fold-History}
use Rattle.bites_machine.specs.declared.vm.counted.Begun.{Begun}
use Rattle.bites_machine.specs.declared.vm.counted.Begun.TheOpen.{Begun-F}
use Rattle.bites_machine.specs.declared.vm.counted.Begun.TheFolds.{fold-Begun}

-- the record after a place where a transition visited these states, with so many looks
abbrev pub after_place : List ℕ → ℕ → ℕ → Record → Record
after_place seen looks i r = record { visits = map (λ q. at q i) seen ++ r.visits; read = r.read; looks = looks + r.looks }

-- the record after it did so at each of some places
abbrev pub after_each : List ℕ → ℕ → List ℕ → Record → Record
after_each seen looks [] r = r
after_each seen looks (i ∷ places) r = after_each seen looks places (after_place seen looks i r)

-- what was read was visited
abbrev pub ReadsVisits : Record → Type 0
ReadsVisits r = (v : Configuration) → Among r.read v → Among r.visits v

-- nothing was recorded
abbrev pub nothing_recorded : Record
nothing_recorded = record { visits = []; read = []; looks = 0 }

-- some run begins at a place from there on
abbrev pub HasRun : Program → List ℕ → ℕ → Type 0
HasRun p hay i = (x : Run) × (first_run p hay (places hay i) ≡ Some x)

-- the record of a search that visited the run alone, if there is one, and read none of its states
abbrev pub run_record : Program → Option Run → Record
run_record p None = nothing_recorded
run_record p (Some x) = record {
  visits = at p.start x.start ∷ x.configurations;
  read = [];
  looks = length (at p.start x.start ∷ x.configurations);
}

-- the record of a search that visited this run alone
abbrev pub record_of_run : FirstRun → Record
record_of_run r = run_record r.program.value.program (first_run r.program.value.program r.haystack.bytes (places r.haystack.bytes r.place.value))

-- the configuration was read, and so visited
pub record IsVisited (v : Configuration) (old new : Record) : Type 0 where
  pub visits : new.visits ≡ v ∷ old.visits
  pub read : new.read ≡ v ∷ old.read
  pub looks : new.looks ≡ old.looks

-- one step more was counted
pub record IsStep (old new : Record) : Type 0 where
  pub visits : new.visits ≡ old.visits
  pub read : new.read ≡ old.read
  pub looks : new.looks ≡ old.looks + 1

-- one step more
abbrev pub record_step : History-F Record → Record
record_step History-F.Nothing = record { visits = []; read = []; looks = 0 }
record_step (History-F.Visit earlier state place) = record {
  visits = at state place ∷ earlier.value.visits;
  read = at state place ∷ earlier.value.read;
  looks = earlier.value.looks;
}
record_step (History-F.Step earlier) = record { visits = earlier.value.visits; read = earlier.value.read; looks = earlier.value.looks + 1 }
record_step (History-F.Transitions earlier seen looks place count) = after_each (reverse seen.value.value.items) looks.value.value (range_with_len place count) earlier.value
record_step (History-F.Rest earlier seen looks haystack place) = after_each (reverse seen.value.value.items) looks.value.value (places haystack.bytes place) earlier.value
record_step (History-F.Run run) = record_of_run run

-- the visits and the number of steps of a history
abbrev pub record_of : History → Record
record_of = fold-History Record record_step

-- one search more
abbrev pub count_step : Begun-F ℕ → ℕ
count_step Begun-F.Nothing = 0
count_step (Begun-F.Search earlier) = suc earlier.value

-- the number of searches that were begun
abbrev pub count_of : Begun → ℕ
count_of = fold-Begun ℕ count_step
