-- What a search is asked for, and what it does.
use Rattle.std.specs.Prelude.{◌≡◌, ◌≤◌, ℕ, suc, Bool, true, false, List, Option, length, if◌then◌else◌}
use Rattle.bites_spec.specs.Utf8.{places, start_alone}
use Rattle.bites_spec.specs.Program.{Program}
use Rattle.bites_spec.specs.Run.{Run, Answered, LeastEnd, first_run, longest_run}
use Rattle.bites_spec.specs.Counts.{Fit, Room, IsBounded, VisitedBy, IsSlotCount, fit_of}
use Rattle.bites_machine.specs.Sweep.{SearchResult}
use Rattle.bites_machine.specs.declared.vm.MatchKind.{MatchKind}
use Rattle.bites_machine.specs.declared.vm.MatchKind.TheVariants.{First, Earliest, Longest}

-- whether the longest match is asked for
abbrev pub is_longest : MatchKind → Bool
is_longest Longest = true
is_longest _ = false

-- whether a match with the least end is asked for
abbrev pub is_earliest : MatchKind → Bool
is_earliest Earliest = true
is_earliest _ = false

-- where the match may begin: at all places from the start on, or at the start alone
abbrev pub starts_of : List ℕ → Bool → ℕ → List ℕ
starts_of hay anchored start = if anchored then start_alone hay start else places hay start

-- the room was made for the program, and a slice of so many slots may be filled
pub record CanAsk (p : Program) (room : Fit) (n : ℕ) : Type 0 where
  pub fits : room ≡ fit_of p
  pub slots : IsSlotCount p n

-- the answer of a search from these starts, by the kind of match that was asked for
pub record IsAnswer (p : Program) (hay starts : List ℕ) (kind : MatchKind) (found : Bool) (old new : List (Option ℕ)) : Type 0 where
  pub first : kind ≡ First → Answered p (first_run p hay starts) found old new
  pub least : kind ≡ Earliest → (o : Option Run) × LeastEnd p hay starts o × Answered p o found old new
  pub longest : kind ≡ Longest → Answered p (longest_run p hay starts) found old new

-- A search: its answer, its bounds, and what the machine of the definitions did. It keeps the room, and is counted.
pub record IsSearch (p : Program) (hay : List ℕ) (start : ℕ) (anchored : Bool) (kind : MatchKind) (found : Bool) (old new : List (Option ℕ)) (before after : Room) : Type 0 where
  pub answer : IsAnswer p hay (starts_of hay anchored start) kind found old new
  pub fits : after.fits ≡ before.fits
  pub bounded : IsBounded p hay start after.walked
  pub visited : VisitedBy p hay (starts_of hay anchored start) found after.walked
  pub searches : after.searches ≡ suc before.searches
  pub searched : start ≤ length hay → SearchResult p hay (is_longest kind) anchored (is_earliest kind) start found old new after.walked
