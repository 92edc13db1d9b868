-- Runs of a program, their order, and the run that a search returns. The starts of a search are the places where a run may
-- begin, in order.
use Rattle.std.specs.Prelude.{◌≡◌, ℕ, zero, suc, ◌*◌, ◌<◌, ◌≤◌, ◌⊎◌, Bool, true, false, ◌&&◌, List, [], ◌∷◌, ◌++◌, length, map, take, Option, Some, None, option_and_then, if◌then◌else◌, ◌==◌, IsTrue}
use Rattle.std.specs.Option.{option_or}
use Rattle.std.specs.List.{range_with_len}
use Rattle.bites_spec.specs.Walks.{Among, AllApart, AreOrdered, Walk, Before, first_among, last_of}
use Rattle.bites_spec.specs.Walks as walks
use Rattle.bites_spec.specs.Program.{State, Program, Configuration, at, state_at, edges, is_match, capture}

-- the configurations are the same
abbrev pub is_same_configuration : Configuration → Configuration → Bool
is_same_configuration s t = (s.state == t.state) && (s.place == t.place)

-- the slot and the place that a state writes, if it writes
abbrev pub write_of : State → ℕ → List (ℕ × ℕ)
write_of (capture q slot) i = (slot, i) ∷ []
write_of _ i = []

-- the last place that was written to the slot
abbrev pub last_write : List (ℕ × ℕ) → ℕ → Option ℕ
last_write [] slot = None
last_write (w ∷ ws) slot = option_or (last_write ws slot) (if w.0 == slot then Some w.1 else None)

-- a run: the place where it starts, the configurations after its first, and the place where it ends
pub record Run : Type 0 where
  pub start : ℕ
  pub configurations : List Configuration
  pub end : ℕ

-- a run by its parts
abbrev pub run : ℕ → List Configuration → ℕ → Run
run i r j = record { start = i; configurations = r; end = j }

module _ (p : Program) where
  -- the configuration is at the state that ends a run
  abbrev pub matches : Configuration → Bool
  matches s = is_match (state_at p.states s.state)

  -- the configuration ends a run at place j
  abbrev pub is_end_at : ℕ → Configuration → Bool
  is_end_at j s = matches s && (s.place == j)

  -- what the run writes, in order: slots and places
  abbrev pub writes : Configuration → List Configuration → List (ℕ × ℕ)
  writes s [] = []
  writes s (t ∷ r) = write_of (state_at p.states s.state) s.place ++ writes t r

  -- the last place that the run writes to the slot
  abbrev pub written : Run → ℕ → Option ℕ
  written r slot = last_write (writes (at p.start r.start) r.configurations) slot

  -- each slot has the last place that the run writes to it
  abbrev pub slots : Run → List (Option ℕ)
  slots r = map (written r) (range_with_len 0 p.slots)

  -- What a search returns, and leaves in a slice: the first slots of the run, or if there is no run the old contents.
  abbrev pub Answered : Option Run → Bool → List (Option ℕ) → List (Option ℕ) → Type 0
  Answered None found old new = (found ≡ false) × (new ≡ old)
  Answered (Some r) found old new = (found ≡ true) × (new ≡ take (length old) (slots r))

module _ (p : Program) (hay : List ℕ) where
  -- where a configuration leads, the preferred edge first
  abbrev pub leads : Configuration → List Configuration
  leads s = edges hay (state_at p.states s.state) s.place

  -- a run may end at the configuration, at place j
  abbrev pub Ends : ℕ → Configuration → Type 0
  Ends j s = IsTrue (matches p s) × (s.place ≡ j)

  -- from s the configurations lead to a match at place j
  abbrev pub Runs : Configuration → List Configuration → ℕ → Type 0
  Runs s r j = Walk leads (Ends j) s r

  -- a run from i to j
  abbrev pub IsRun : ℕ → List Configuration → ℕ → Type 0
  IsRun i r j = Runs (at p.start i) r j

  -- no configuration comes twice
  abbrev pub IsSimple : ℕ → List Configuration → Type 0
  IsSimple i r = AllApart (at p.start i ∷ r)

  -- a walk from s gets to t
  abbrev pub Reaches : Configuration → Configuration → Type 0
  Reaches s t = (r : List Configuration) × Walk leads (λ u. u ≡ t) s r

  -- the list has all runs from i, each before those that it is preferred to
  pub record AreAllRuns (i : ℕ) (rs : List Run) : Type 0 where
    pub runs : (r : Run) → Among rs r → (r.start ≡ i) × IsRun i r.configurations r.end
    pub all : (r : List Configuration) (j : ℕ) → IsRun i r j → Among rs (run i r j)
    pub in_order : AreOrdered (λ r o. Before leads (at p.start i) r.configurations o.configurations) rs

  -- no run begins at a start
  abbrev pub NoRun : List ℕ → Type 0
  NoRun starts = (i : ℕ) → Among starts i → (r : List Configuration) (j : ℕ) → IsRun i r j → ⊥

  -- the run begins at the first of the starts at which a run begins
  pub record StartsFirst (starts : List ℕ) (r : Run) : Type 0 where
    pub runs : IsRun r.start r.configurations r.end
    pub from : Among starts r.start
    pub none_before : (i : ℕ) → Among starts i → i < r.start → (o : List Configuration) (j : ℕ) → IsRun i o j → ⊥

  -- the run is simple, and no simple run from its start whose end passes the test comes before it
  pub record IsFirstOf (Wanted : ℕ → Type 0) (r : Run) : Type 0 where
    pub simple : IsSimple r.start r.configurations
    pub first : (o : List Configuration) (j : ℕ) → IsRun r.start o j → IsSimple r.start o → Wanted j →
        (o ≡ r.configurations) ⊎ Before leads (at p.start r.start) r.configurations o

  -- None if no start has a run, else the first simple run from the first that has one
  abbrev pub FirstRun : List ℕ → Option Run → Type 0
  FirstRun starts None = NoRun starts
  FirstRun starts (Some r) = StartsFirst starts r × IsFirstOf (λ j. Unit {0}) r

  -- None if there is no run, else a run with the least end of all runs from the starts
  abbrev pub LeastEnd : List ℕ → Option Run → Type 0
  LeastEnd starts None = NoRun starts
  LeastEnd starts (Some r) =
      IsRun r.start r.configurations r.end × Among starts r.start
      × ((i : ℕ) → Among starts i → (o : List Configuration) (j : ℕ) → IsRun i o j → r.end ≤ j)

  -- None if there is no run, else the first of the simple runs from the first such start whose end is the greatest there
  abbrev pub LongestRun : List ℕ → Option Run → Type 0
  LongestRun starts None = NoRun starts
  LongestRun starts (Some r) =
      StartsFirst starts r × ((o : List Configuration) (j : ℕ) → IsRun r.start o j → j ≤ r.end) × IsFirstOf (λ j. j ≡ r.end) r

  -- one more step than there are configurations
  abbrev pub enough : ℕ
  enough = suc (length p.states * suc (length hay))

  -- a run from i by all its configurations, with the first one
  abbrev pub run_of : ℕ → List Configuration → Option Run
  run_of i [] = None
  run_of i (s ∷ r) = Some (run i r (last_of s r).place)

  -- the first simple run from i
  unfoldable pub first_run_from : ℕ → Option Run
  first_run_from i =
      option_and_then (run_of i) (walks.first_walk is_same_configuration leads (matches p) enough (λ s. false) (at p.start i))

  -- what `FirstRun` says, as a function
  unfoldable pub first_run : List ℕ → Option Run
  first_run starts = first_among first_run_from starts

  -- the first simple run from i to j
  unfoldable pub first_run_to : ℕ → ℕ → Option Run
  first_run_to i j =
      option_and_then (run_of i) (walks.first_walk is_same_configuration leads (is_end_at p j) enough (λ s. false) (at p.start i))

  -- the first simple run from i to the greatest place below n at which one ends
  unfoldable pub longest_run_below : ℕ → ℕ → Option Run
  longest_run_below zero i = None
  longest_run_below (suc j) i = option_or (first_run_to i j) (longest_run_below j i)

  -- what `LongestRun` says, as a function
  unfoldable pub longest_run : List ℕ → Option Run
  longest_run starts = first_among (longest_run_below (suc (length hay))) starts

-- the run that a search returns: the longest, or the first
abbrev pub chosen_run : Bool → Program → List ℕ → List ℕ → Option Run
chosen_run longest p hay starts = if longest then longest_run p hay starts else first_run p hay starts
