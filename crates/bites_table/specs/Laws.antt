-- The laws of thread lists and their tables, each proved.
use Rattle.std.specs.Prelude.{◌≡◌, ℕ, suc, ◌+◌, ◌<◌, ◌≤◌, Bool, true, false, List, [], ◌++◌, map, length, Option, Some, None, option_map, if◌then◌else◌}
use Rattle.std.specs.Option.{option_or}
use Rattle.bites_spec.specs.Look.{before}
use Rattle.bites_spec.specs.Utf8.{piece}
use Rattle.bites_spec.specs.Walks.{Among}
use Rattle.bites_spec.specs.Program.{State, Program, state_at, takes, at}
use Rattle.bites_spec.specs.Closure.{Threads, Walking, WalksTo}
use Rattle.bites_spec.specs.PikeVm.{Searching, Searches, SearchedTo}
use Rattle.bites_machine.specs.Ends.{next_character}
use Rattle.bites_table.specs.Kinds.{Kind, kind_of_byte, kind_of, leads_by, leads_at, asserts, AreAlikeKinds, AreAlike, Classes, AreClasses}
use Rattle.bites_table.specs.Sources.{Thread, row_of_register, row_at, thread_of}
use Rattle.bites_table.specs.Transition.{ThreadList, Transition, IsTransition, source_at}
use Rattle.bites_table.specs.Table.{Table, IsTable, list_at, TableSearch, Input, transition_at, table_step, is_over, RunsTo, starts_of, IsAtOnePlace, HasKind, Reached, Ended}

-- where a state leads at a place depends on the kind of the byte before and the character after
abbrev pub LeadsByKind : Type 0
LeadsByKind =
    (hay : List ℕ) (i : ℕ) → i ≤ length hay → (st : State) → leads_by (kind_of (before hay i)) (next_character hay i) st ≡ leads_at hay i st

-- the byte before the next place has the kind of the character, also where that is decoded from bytes that are not UTF-8
abbrev pub KindIsPassed : Type 0
KindIsPassed =
    (hay : List ℕ) (i : ℕ) → i ≤ length hay → 0 < (piece hay i).len → kind_of (before hay (i + (piece hay i).len)) ≡ kind_of (next_character hay i)

-- characters of one kind that the same states take are alike
abbrev pub AlikeByTaking : Type 0
AlikeByTaking =
    (p : Program) (c d : ℕ) → ((q : ℕ) → takes (state_at p.states q) c ≡ takes (state_at p.states q) d) →
    kind_of_byte c ≡ kind_of_byte d → AreAlike p (Some c) (Some d)

-- where no state tests an assertion all kinds are alike, and so are characters that the same states take
abbrev pub AlikeWithoutAssertions : Type 0
AlikeWithoutAssertions =
    (p : Program) → ((q : ℕ) → asserts (state_at p.states q) ≡ false) →
    ((k l : Kind) → AreAlikeKinds p k l)
    × ((c d : ℕ) → ((q : ℕ) → takes (state_at p.states q) c ≡ takes (state_at p.states q) d) → AreAlike p (Some c) (Some d))

-- a map of threads that commutes with what they do at each state of a program, and with what a match leaves
pub record IsThreadMap {T U : Type 0} (p : Program) (a : Threads T) (b : Threads U) (f : T → U) : Type 0 where
  pub state : (t : T) → b.state (f t) ≡ a.state t
  pub moved : (q : ℕ) (t : T) → b.moved (state_at p.states q) (f t) ≡ map f (a.moved (state_at p.states q) t)
  pub kept : (o : Option T) (ts : List T) → b.kept (option_map f o) (map f ts) ≡ map f (a.kept o ts)

-- a walk with its threads mapped
abbrev pub mapped : {T U : Type 0} → (T → U) → Walking T → Walking U
mapped f w = record { stack = map f w.stack; seen = w.seen; next = map f w.next; first_match = option_map f w.first_match; looks = w.looks }

-- such a map takes every walk to a walk with the same visits and looks
abbrev pub WalksAreMapped : Type 0 → Type 0 → Type 0
WalksAreMapped T U =
    (p : Program) (a : Threads T) (b : Threads U) (f : T → U) → IsThreadMap p a b f →
    (w v : Walking T) → WalksTo a p w v → WalksTo b p (mapped f w) (mapped f v)

-- a thread list has one transition up to its registers: visits, looks, where the start is walked, and the sources of the threads that
-- come next and of the one at a match
abbrev pub TransitionIsOne : Type 0
TransitionIsOne =
    (p : Program) (leads : State → List ℕ) (l : ThreadList) (t u : Transition ThreadList) → IsTransition p leads l t → IsTransition p leads l u →
    (t.seen ≡ u.seen) × (t.looks ≡ u.looks) × (t.hit ≡ u.hit) × (t.next.starts ≡ u.next.starts)
    × (map (λ (a : Thread ℕ). a.state) t.next.threads ≡ map (λ (a : Thread ℕ). a.state) u.next.threads)
    × (map (λ (a : Thread ℕ). source_at t.moves a.row) t.next.threads ≡ map (λ (a : Thread ℕ). source_at u.moves a.row) u.next.threads)

-- A transition searches a place for the Pike VM, whatever the haystack, the rows of the registers and the number of slots, where
-- states lead as they do for the transition. The longest match is searched for at one place alone, where all threads were started.
abbrev pub TransitionSearches : Type 0
TransitionSearches =
    (p : Program) (leads : State → List ℕ) (l : ThreadList) (t : Transition ThreadList) → IsTransition p leads l t →
    (hay : List ℕ) (width : ℕ) (anchored longest : Bool) (start : ℕ) (s : Searching) (registers : ℕ → List (Option ℕ)) →
    ((q : ℕ) → leads (state_at p.states q) ≡ leads_at hay s.place (state_at p.states q)) →
    s.threads ≡ map (thread_of start registers) l.threads → starts_of longest anchored s.starts ≡ l.starts →
    (longest ≡ true → anchored ≡ true) → (s.starts ≡ true → start ≡ (if longest then s.place else 0)) →
    (u : Searching) × Searches hay longest p width anchored s u
    × (u.place ≡ s.place + (piece hay s.place).len)
    × (u.threads ≡ map (thread_of start (λ r. row_at width s.place registers (source_at t.moves r))) t.next.threads)
    × (starts_of longest anchored u.starts ≡ t.next.starts)
    × (u.best ≡ option_or (option_map (thread_of start (row_at width s.place registers)) t.hit) s.best)
    × (u.visits ≡ map (λ q. at q s.place) t.seen ++ s.visits)
    × (u.looks ≡ t.looks + s.looks)

-- A search begins at a thread list without threads that walks the start: everywhere, or here if the search is anchored. The rows of
-- the registers may be any.
abbrev pub Begins : Type 0
Begins =
    (p : Program) (tab : Table) (x : Input) (a : TableSearch) → a.place ≡ x.start → x.start ≤ length x.hay →
    IsAtOnePlace x → (list_at tab a.list).threads ≡ [] → (list_at tab a.list).starts ≡ starts_of x.longest x.anchored true →
    a.best ≡ None → a.visits ≡ [] → a.looks ≡ 0 → HasKind p tab x a → Reached p tab x 0 a

-- while its transitions are known, a search by the table stays in step with that of the Pike VM
abbrev pub Runs : Type 0
Runs =
    (p : Program) (k : Classes) → AreClasses p k → (tab : Table) → IsTable p k tab → (x : Input) (n m : ℕ) (a b : TableSearch) →
    Reached p tab x n a → RunsTo k tab x a m b → Reached p tab x (n + m) b

-- the search after a transition that moves no register
abbrev pub passed : Input → Transition ℕ → TableSearch → TableSearch
passed x t a = record {
  place = a.place + (piece x.hay a.place).len;
  list = t.next;
  registers = a.registers;
  best = a.best;
  visits = map (λ q. at q a.place) t.seen ++ a.visits;
  looks = t.looks + a.looks;
}

-- where nobody comes to a match and each thread that comes next has the row of the register of its own number, the registers and the
-- best match stay as they are
abbrev pub Passes : Type 0
Passes =
    (p : Program) (k : Classes) → AreClasses p k → (tab : Table) → IsTable p k tab → (x : Input) (n : ℕ) (a : TableSearch) (t : Transition ℕ) →
    Reached p tab x n a → transition_at k tab x a ≡ Some t → t.hit ≡ None →
    ((u : Thread ℕ) → Among (list_at tab t.next).threads u → source_at t.moves u.row ≡ row_of_register u.row) →
    is_over k tab x a.place (passed x t a) ≡ false → Reached p tab x (suc n) (passed x t a)

-- where the search by the table is over, that of the Pike VM ended, with the same best match, visits and looks
abbrev pub Ends : Type 0
Ends =
    (p : Program) (k : Classes) → AreClasses p k → (tab : Table) → IsTable p k tab → (x : Input) (n : ℕ) (a b : TableSearch) →
    Reached p tab x n a → table_step k tab x a ≡ Some b → is_over k tab x a.place b ≡ true → Ended p x b

-- A search of the Pike VM in which no thread is left comes back to the table, at a thread list without threads that walks the start as
-- it does. The rows of the registers may be any.
abbrev pub ComesBack : Type 0
ComesBack =
    (p : Program) (tab : Table) (x : Input) (n : ℕ) (s : Searching) (a : TableSearch) →
    IsAtOnePlace x → SearchedTo x.hay x.longest p x.width x.anchored x.earliest x.start n s → s.threads ≡ [] →
    s.place ≡ a.place → a.place ≤ length x.hay → (list_at tab a.list).threads ≡ [] → starts_of x.longest x.anchored s.starts ≡ (list_at tab a.list).starts →
    s.best ≡ a.best → s.visits ≡ a.visits → s.looks ≡ a.looks → HasKind p tab x a → Reached p tab x n a
