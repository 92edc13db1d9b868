-- What a search has visited, and how often it looked.
use Rattle.std.specs.Prelude.{◌≡◌, ◌⊎◌, ℕ, ◌+◌, ◌*◌, ◌≤◌, Bool, true, false, List, ◌∷◌, length}
use Rattle.bites_spec.specs.Utf8.{places}
use Rattle.bites_spec.specs.Walks.{Among, AllApart}
use Rattle.bites_spec.specs.Program.{Program, Configuration, at, targets}
use Rattle.bites_spec.specs.Run.{Run, IsRun, Reaches}

-- the configurations that were visited, the last one first; those of them whose state was read; and the number of looks
pub record Record : Type 0 where
  pub visits : List Configuration
  pub read : List Configuration
  pub looks : ℕ

-- how much room a search of a program takes: for its states, its slots, and the targets of its states
pub record Fit : Type 0 where
  pub states : ℕ
  pub slots : ℕ
  pub targets : ℕ

-- the room that a program takes
abbrev pub fit_of : Program → Fit
fit_of p = record { states = length p.states; slots = p.slots; targets = targets p }

-- the room for so many slots
abbrev pub fit_with : Program → ℕ → Fit
fit_with p slots = record { states = length p.states; slots = slots; targets = targets p }

module _ (p : Program) (hay : List ℕ) where
  -- No configuration is visited twice, and what was read was visited. A search from s makes at most states times places visits, at
  -- most (targets + 1) times places looks, and no fewer looks than visits.
  pub record IsBounded (s : ℕ) (c : Record) : Type 0 where
    pub apart : AllApart c.visits
    pub read : (v : Configuration) → Among c.read v → Among c.visits v
    pub visits : length c.visits ≤ length p.states * length (places hay s)
    pub looks : c.looks ≤ (targets p + 1) * length (places hay s)
    pub looked : length c.visits ≤ c.looks

  -- every configuration that a walk reaches from the start of the program, at a start of the search, was visited
  abbrev pub VisitedAll : List ℕ → Record → Type 0
  VisitedAll starts c = (i : ℕ) → Among starts i → (t : Configuration) → Reaches p hay (at p.start i) t → Among c.visits t

  -- every configuration of the run was visited
  abbrev pub VisitedRun : Record → Run → Type 0
  VisitedRun c r = (t : Configuration) → Among (at p.start r.start ∷ r.configurations) t → Among c.visits t

  -- some run from a start was visited
  abbrev pub VisitedSome : List ℕ → Record → Type 0
  VisitedSome starts c = (r : Run) × IsRun p hay r.start r.configurations r.end × Among starts r.start × VisitedRun c r

  -- what a search has visited, by whether it finds something
  abbrev pub VisitedBy : List ℕ → Bool → Record → Type 0
  VisitedBy starts true = VisitedSome starts
  VisitedBy starts false = VisitedAll starts

-- The room for searches, as contracts see it: which programs it fits, what the last search visited, and how many there were.
pub record Room : Type 0 where
  pub fits : Fit
  pub walked : Record
  pub searches : ℕ

-- the room is enough for searches of the program that ask for so many slots
pub record HasRoomFor (room : Fit) (p : Program) (n : ℕ) : Type 0 where
  pub states : room.states ≡ length p.states
  pub targets : room.targets ≡ targets p
  pub slots : n ≤ room.slots

-- a slice has no slot, two, or as many as the program
abbrev pub IsSlotCount : Program → ℕ → Type 0
IsSlotCount p n = (n ≡ 0) ⊎ ((n ≡ 2) ⊎ (n ≡ p.slots))

-- a search from s that may begin at these starts kept the bounds, and visited what it had to
abbrev pub IsWalked : Program → List ℕ → ℕ → List ℕ → Bool → Record → Type 0
IsWalked p hay s starts found c = IsBounded p hay s c × VisitedBy p hay starts found c
