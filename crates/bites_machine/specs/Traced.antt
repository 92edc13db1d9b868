-- What a search of the machine on lists does at each place, for people to look at.
use Rattle.std.specs.Prelude.{◌≡◌, ℕ, suc, ◌+◌, Bool, true, false, List, [], ◌∷◌, ◌++◌, map, reverse, length, Option, None, is_some, if◌then◌else◌, ◌==◌}
use Rattle.std.specs.List.{list_any}
use Rattle.bites_spec.specs.Program.{State, Program, Configuration, at, targets_of}
use Rattle.bites_spec.specs.Counts.{Record}
use Rattle.bites_spec.specs.PikeVm.{Thread, Walking, Searching, Searches, WalksTo, begun, at_start, is_over}
use Rattle.bites_machine.specs.Sweep.{SearchResult, left_in}
use Rattle.bites_machine.specs.declared.vm.traced.Walk.{Walk}
use Rattle.bites_machine.specs.declared.vm.traced.Between.{Between}

-- What is done at a place: whether the start of the program is walked, the threads that are walked, the preferred one first and the
-- start last, the states that are visited, in order, and the first thread that comes to a match.
pub record Place : Type 0 where
  pub place : ℕ
  pub starts : Bool
  pub threads : List Thread
  pub visited : List ℕ
  pub first_match : Option Thread

-- what a search does at its place, by the walk there once it is over
abbrev pub place_of : List Thread → Searching → Walking → Place
place_of threads s w = record {
  place = s.place;
  starts = s.starts;
  threads = threads;
  visited = reverse w.seen;
  first_match = w.first_match;
}

-- the configurations that were visited at some places, the last place first, and so each place's configurations
abbrev pub visits_of : List Place → List Configuration
visits_of [] = []
visits_of (x ∷ xs) = map (λ q. at q x.place) (reverse x.visited) ++ visits_of xs

module _ (hay : List ℕ) (longest : Bool) (p : Program) (width : ℕ) (anchored : Bool) where
  -- one place is searched, and this is done there
  pub record Traces (s t : Searching) (x : Place) : Type 0 where
    pub searches : Searches hay longest p width anchored s t
    pub traced : place_of (begun hay longest p width s).stack s searches.last ≡ x

  module _ (earliest : Bool) (start : ℕ) where
    -- these places were searched from the start on, the last one first, and the search is over, or it is not
    abbrev pub IsTraced : Bool → List Place → Searching → Type 0
    IsTraced over [] t = (over ≡ false) × (at_start start ≡ t)
    IsTraced over (x ∷ xs) t = (s : Searching) × IsTraced false xs s × Traces s t x × (is_over hay longest p width anchored earliest s.place t ≡ over)

-- a walk after so many looks
abbrev pub walking_of : Walk → ℕ → Walking
walking_of w looks = record {
  stack = w.stack.items;
  seen = reverse w.visited.items;
  next = w.next.items;
  first_match = w.first_match;
  looks = looks;
}

-- the place is walked with these threads, as far as this, however often was looked before
abbrev pub Walks : List ℕ → Bool → ℕ → Program → List Thread → Walk → Type 0
Walks hay longest i p threads w =
    (looks : ℕ) → (more : ℕ) × WalksTo hay longest p i (record { stack = threads; seen = []; next = []; first_match = None; looks = looks }) (walking_of w more)

-- the edges of the states that were not visited; the first of these states has the number q
abbrev pub edges_unseen : List State → ℕ → List ℕ → ℕ
edges_unseen [] q seen = 0
edges_unseen (s ∷ states) q seen = (if list_any (λ x. x == q) seen then 0 else length (targets_of s)) + edges_unseen states (suc q) seen

-- what is left of a walk: threads, and edges of states that were not visited
abbrev pub left_to_walk : Program → Walking → ℕ
left_to_walk p w = length w.stack + edges_unseen p.states 0 w.seen

-- a search at a place, after these visits and so many looks
abbrev pub searching_of : Between → ℕ → List Configuration → ℕ → Searching
searching_of b i visits looks = record { place = i; threads = b.threads.items; starts = b.starts; best = b.best; visits = visits; looks = looks }

-- A traced search has the visits, the answer and the slots of a search.
pub record HasTrace (xs : List Place) (t : Searching) (answer : Bool) (old new : List (Option ℕ)) (walked : Record) : Type 0 where
  pub visits : walked.visits ≡ visits_of xs
  pub found : is_some t.best ≡ answer
  pub slots : left_in t.best old ≡ new

-- a search with a slice for all slots is traced by the places of any trace that is over
abbrev pub IsTracedSearch : Type 0
IsTracedSearch =
    (p : Program) (hay : List ℕ) (longest anchored earliest : Bool) (start : ℕ) (answer : Bool) (old new : List (Option ℕ)) (walked : Record) (xs : List Place) (t : Searching) →
    SearchResult p hay longest anchored earliest start answer old new walked → length old ≡ p.slots → IsTraced hay longest p p.slots anchored earliest start true xs t →
    HasTrace xs t answer old new walked
