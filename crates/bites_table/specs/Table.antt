-- A table of thread lists, and a search by it.
use Rattle.std.specs.Prelude.{◌≡◌, ℕ, zero, suc, ◌+◌, ◌≤◌, Bool, true, false, not, ◌||◌, ◌&&◌, List, [], ◌∷◌, ◌++◌, map, length, Option, Some, option_map, is_some, if◌then◌else◌, ◌==◌, slice_index_or}
use Rattle.std.specs.Option.{option_or}
use Rattle.bites_spec.specs.Look.{before}
use Rattle.bites_spec.specs.Utf8.{piece}
use Rattle.bites_spec.specs.Program.{Program, Configuration, at}
use Rattle.bites_spec.specs.PikeVm as vm
use Rattle.bites_spec.specs.PikeVm.{Searching, SearchedTo, Searched}
use Rattle.bites_machine.specs.Ends.{next_character}
use Rattle.bites_table.specs.Kinds.{edge, kind_of, leads_by, AreAlikeKinds, Classes}
use Rattle.bites_table.specs.Sources.{Thread, row_at, thread_of}
use Rattle.bites_table.specs.Transition.{Starts, everywhere, here, nowhere, longest_here, longest_nowhere, is_walked, ThreadList, Transition, IsTransition, source_at}

-- thread lists, and the transition of a thread list and a class, both by their numbers, where it is known
pub record Table : Type 0 where
  pub lists : List ThreadList
  pub transition : ℕ → ℕ → Option (Transition ℕ)

abbrev pub list_at : Table → ℕ → ThreadList
list_at tab n = slice_index_or tab.lists n (record { threads = []; starts = nowhere; kind = edge })

-- the transition with the next thread list in place of its number
abbrev pub with_list : Table → Transition ℕ → Transition ThreadList
with_list tab t = record { next = list_at tab t.next; moves = t.moves; hit = t.hit; seen = t.seen; looks = t.looks }

-- each transition is one for the member of its class, and after a character the next thread list is one for its kind
pub record IsTable (p : Program) (k : Classes) (tab : Table) : Type 0 where
  pub transition : (n c : ℕ) (t : Transition ℕ) → tab.transition n c ≡ Some t → IsTransition p (leads_by (list_at tab n).kind (k.member c)) (list_at tab n) (with_list tab t)
  pub kind : (n c : ℕ) (t : Transition ℕ) → tab.transition n c ≡ Some t → (d : ℕ) → k.member c ≡ Some d → AreAlikeKinds p (list_at tab t.next).kind (kind_of (Some d))

-- A search by a table between two places: the number of its thread list, the rows of the registers, the thread at the best match so
-- far, the configurations that were visited, and the number of looks.
pub record TableSearch : Type 0 where
  pub place : ℕ
  pub list : ℕ
  pub registers : ℕ → List (Option ℕ)
  pub best : Option vm.Thread
  pub visits : List Configuration
  pub looks : ℕ

-- a search of a haystack: from where, for how many slots, there alone or from there on, and to the first match, the longest one or the
-- preferred one
pub record Input : Type 0 where
  pub hay : List ℕ
  pub start : ℕ
  pub width : ℕ
  pub anchored : Bool
  pub longest : Bool
  pub earliest : Bool

-- where the threads of the search are started, as the Pike VM notes it: for the longest match alone
abbrev pub noted_start : Input → ℕ
noted_start x = if x.longest then x.start else 0

-- the search after a transition
abbrev pub search_after : Input → Transition ℕ → TableSearch → TableSearch
search_after x t a = record {
  place = a.place + (piece x.hay a.place).len;
  list = t.next;
  registers = λ r. row_at x.width a.place a.registers (source_at t.moves r);
  best = option_or (option_map (thread_of (noted_start x) (row_at x.width a.place a.registers)) t.hit) a.best;
  visits = map (λ q. at q a.place) t.seen ++ a.visits;
  looks = t.looks + a.looks;
}

-- no thread is left
abbrev pub is_empty : List (Thread ℕ) → Bool
is_empty [] = true
is_empty (t ∷ ts) = false

module _ (k : Classes) (tab : Table) (x : Input) where
  -- the transition at the place of the search, if it is known
  abbrev pub transition_at : TableSearch → Option (Transition ℕ)
  transition_at a = tab.transition a.list (k.class_of (next_character x.hay a.place))

  -- one place by the table, if its transition is known
  abbrev pub table_step : TableSearch → Option TableSearch
  table_step a = option_map (λ t. search_after x t a) (transition_at a)

  -- the search is over after a place: the end of the haystack was searched, the first match is enough, or no thread is left and none
  -- begins
  abbrev pub is_over : ℕ → TableSearch → Bool
  is_over i a =
      ((piece x.hay i).len == 0)
      || ((x.earliest && is_some a.best) || (not (is_walked (list_at tab a.list).starts) && is_empty (list_at tab a.list).threads))

  -- n places by the table, and the search is not over
  abbrev pub RunsTo : TableSearch → ℕ → TableSearch → Type 0
  RunsTo a zero b = a ≡ b
  RunsTo a (suc n) c = (b : TableSearch) × RunsTo a n b × (table_step b ≡ Some c) × (is_over b.place c ≡ false)

-- where a search walks the start, by whether it is for the longest match, whether it is anchored, and whether it walks the start here
abbrev pub starts_of : Bool → Bool → Bool → Starts
starts_of true anchored false = longest_nowhere
starts_of true anchored true = longest_here
starts_of false anchored false = nowhere
starts_of false true true = here
starts_of false false true = everywhere

-- the search of the Pike VM is in step with the search by the table: its threads are those of the thread list with the rows of their
-- registers
pub record IsInStep (tab : Table) (x : Input) (s : Searching) (a : TableSearch) : Type 0 where
  pub place : s.place ≡ a.place
  pub within : a.place ≤ length x.hay
  pub threads : s.threads ≡ map (thread_of (noted_start x) a.registers) (list_at tab a.list).threads
  pub starts : starts_of x.longest x.anchored s.starts ≡ (list_at tab a.list).starts
  pub started : s.starts ≡ true → noted_start x ≡ (if x.longest then s.place else 0)
  pub best : s.best ≡ a.best
  pub visits : s.visits ≡ a.visits
  pub looks : s.looks ≡ a.looks

-- the thread list is one for the byte before the place
abbrev pub HasKind : Program → Table → Input → TableSearch → Type 0
HasKind p tab x a = AreAlikeKinds p (list_at tab a.list).kind (kind_of (before x.hay a.place))

-- the longest match is searched for at one place alone
abbrev pub IsAtOnePlace : Input → Type 0
IsAtOnePlace x = x.longest ≡ true → x.anchored ≡ true

-- the Pike VM searched n places from the start on, and its search is in step
pub record Reached (p : Program) (tab : Table) (x : Input) (n : ℕ) (a : TableSearch) : Type 0 where
  pub one_place : IsAtOnePlace x
  pub search : Searching
  pub searched : SearchedTo x.hay x.longest p x.width x.anchored x.earliest x.start n search
  pub in_step : IsInStep tab x search a
  pub kind : HasKind p tab x a

-- the search of the Pike VM ended with the same best match, visits and looks
pub record Ended (p : Program) (x : Input) (a : TableSearch) : Type 0 where
  pub search : Searching
  pub searched : Searched x.hay x.longest p x.width x.anchored x.earliest x.start search
  pub best : search.best ≡ a.best
  pub visits : search.visits ≡ a.visits
  pub looks : search.looks ≡ a.looks
