-- How the graph of thread lists is stored.
use Rattle.std.specs.Prelude.{ℕ, ◌≤◌, List, [], ◌∷◌, map, length, reverse, option_map, slice_range}
use Rattle.bites_table.specs.Graph as graphs
use Rattle.bites_table.specs.declared.thread_list.Thread.{Thread}
use Rattle.bites_table.specs.declared.thread_list.ThreadList.{ThreadList}
use Rattle.bites_table.specs.declared.thread_list.Source.{Source}
use Rattle.bites_table.specs.declared.explore.graph.Part.{Part}
use Rattle.bites_table.specs.declared.explore.graph.StoredList.{StoredList}
use Rattle.bites_table.specs.declared.explore.graph.StoredOutcome.{StoredOutcome}
use Rattle.bites_table.specs.declared.explore.graph.Outcome.{Outcome}
use Rattle.bites_table.specs.declared.explore.graph.Cell.{Cell}
use Rattle.bites_table.specs.declared.explore.graph.Graph.TheInside.{Inside}

abbrev pub list_in : List Thread → StoredList → graphs.NumberedList
list_in threads l = record { threads = slice_range threads l.threads.from l.threads.to; registers = l.registers; starts = l.starts; kind = l.kind }

abbrev pub outcome_in : List Source → StoredOutcome → graphs.Outcome
outcome_in moves o = record { next = o.next; moves = slice_range moves o.moves.from o.moves.to; hit = o.hit }

-- a list with so many registers, an outcome and a transition
abbrev pub numbered : ThreadList → ℕ → graphs.NumberedList
numbered l registers = record { threads = l.threads.now; registers = registers; starts = l.starts; kind = l.kind }

abbrev pub outcome_of : Outcome → graphs.Outcome
outcome_of o = record { next = o.next; moves = o.moves.now; hit = o.hit }

abbrev pub cell_of : Cell → graphs.Cell
cell_of x = record { outcome = x.outcome; seen = reverse x.seen.value.items; looks = x.looks.value }

abbrev pub graph_of : Inside → graphs.Graph
graph_of a = record {
  classes = a.classes;
  lists = map (list_in a.threads.items) a.lists.items;
  cells = map (option_map cell_of) a.cells.items;
  outcomes = map (outcome_in a.moves.items) a.outcomes.items;
}

-- the part lies in a vector of this length
abbrev pub IsPart : ℕ → Part → Type 0
IsPart len part = (part.from ≤ part.to) × (part.to ≤ len)

-- so do the parts of these
abbrev pub AreParts : {X : Type 0} → (X → Part) → ℕ → List X → Type 0
AreParts part len [] = Unit {0}
AreParts part len (x ∷ xs) = IsPart len (part x) × AreParts part len xs

-- the parts that are stored lie in their vectors
pub record IsStored (a : Inside) : Type 0 where
  pub lists : AreParts (λ (l : StoredList). l.threads) (length a.threads.items) a.lists.items
  pub outcomes : AreParts (λ (o : StoredOutcome). o.moves) (length a.moves.items) a.outcomes.items
