-- The first fault of a list of states that is to be a program.
use Rattle.std.specs.Prelude.{ℕ, ◌%◌, Bool, true, ◌&&◌, not, List, [], ◌∷◌, length, Option, Some, None, if◌then◌else◌, nat_lt, nat_le, ◌==◌}
use Rattle.std.specs.List.{list_all}
use Rattle.bites_spec.specs.Walks.{first_among}
use Rattle.bites_spec.specs.Program.{State, Program, targets_of, ranges, capture}

-- what may be wrong with a list of states
pub data ProgramFault : Type 0 where
  too_many : ProgramFault
  bad_slot : ProgramFault
  bad_start : ProgramFault
  bad_target : ProgramFault
  bad_ranges : ProgramFault

-- each range has a character, and begins above the one before
abbrev pub are_ranges : List (ℕ × ℕ) → Bool
are_ranges [] = true
are_ranges (r ∷ []) = nat_le r.0 r.1
are_ranges (r ∷ s ∷ rs) = nat_le r.0 r.1 && (nat_lt r.1 s.0 && are_ranges (s ∷ rs))

-- the ranges of a state are in order
abbrev pub has_ranges : State → Bool
has_ranges (ranges q rs) = are_ranges rs
has_ranges _ = true

-- the slot that a state writes is there
abbrev pub has_slot : ℕ → State → Bool
has_slot slots (capture q slot) = nat_lt slot slots
has_slot slots _ = true

-- the first fault of one state
abbrev pub fault_of : ℕ → ℕ → State → Option ProgramFault
fault_of len slots s =
    if not (list_all (λ q. nat_lt q len) (targets_of s)) then Some bad_target
    else (if not (has_ranges s) then Some bad_ranges else (if not (has_slot slots s) then Some bad_slot else None))

-- the first fault, in the order in which faults are checked
abbrev pub first_fault : Program → Option ProgramFault
first_fault p =
    if nat_lt 4294967295 (length p.states) then Some too_many
    else (if not (nat_le 2 p.slots && ((p.slots % 2) == 0)) then Some bad_slot
    else (if not (nat_lt p.start (length p.states)) then Some bad_start else first_among (fault_of (length p.states) p.slots) p.states))
