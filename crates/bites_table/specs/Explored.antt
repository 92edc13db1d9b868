-- The thread lists of a program, explored.
use Rattle.std.specs.Prelude.{◌≡◌, ℕ, ◌<◌, true, List, length, slice_index_or}
use Rattle.bites_spec.specs.Program.{Program, state_at, takes}
use Rattle.bites_machine.specs.Bits.{has_bit}
use Rattle.bites_machine.specs.Ends.{takes_by}
use Rattle.bites_table.specs.Kinds as kinds
use Rattle.bites_table.specs.Kinds.{kind_of, AreAlikeKinds, Classes}
use Rattle.bites_table.specs.Takers.{AssertsAs}
use Rattle.bites_table.specs.Transition.{Starts, everywhere}
use Rattle.bites_table.specs.Table.{IsTable, starts_of}
use Rattle.bites_table.specs.Graph.{Graph, IsGraph, IsRoot, table_of}
use Rattle.bites_table.specs.Made.{IsMade, AreNoted}
use Rattle.bites_table.specs.Classes.{classes_of}
use Rattle.bites_table.specs.Built.{kind_as}
use Rattle.bites_table.specs.declared.kind.Kind.{Kind}
use Rattle.bites_table.specs.declared.kind.Kind.TheVariants.{Edge}
use Rattle.bites_table.specs.declared.explore.base.Base.{Base}
use Rattle.bites_table.specs.declared.explore.roots.Roots.{Roots}
use Rattle.bites_table.specs.declared.explore.Context.{Context}
use Rattle.bites_table.specs.declared.explore.Explored.{Explored}

-- the program of a context, and its classes
abbrev pub program_in : Context → Program
program_in x = x.program.now.program

unfoldable pub classes_in : Context → Classes
classes_in x = classes_of x.classes.now

-- the assertions of the program hold before each class as before a byte of its kind
abbrev pub AreAfter : Program → Classes → List Kind → Type 0
AreAfter p k after = (b : kinds.Kind) (c : ℕ) → c < length after → AssertsAs p b (kind_as (slice_index_or after c Edge)) (k.member c)

-- and after each class as after a byte of its kind
abbrev pub AreBefore : Program → Classes → List Kind → Type 0
AreBefore p k before = (c : ℕ) → c < length before → AreAlikeKinds p (kind_as (slice_index_or before c Edge)) (kind_of (k.member c))

-- for each state a bit for each of the first 64 classes: whether the state takes it
abbrev pub AreTaken : Program → Classes → List ℕ → Type 0
AreTaken p k bits = (q c : ℕ) → q < length bits → c < 64 → has_bit (slice_index_or bits q 0) c ≡ takes_by (takes (state_at p.states q)) (k.member c)

-- all of the kinds are the same
abbrev pub AreSame : List Kind → Type 0
AreSame kinds = (c d : ℕ) → c < length kinds → d < length kinds → slice_index_or kinds c Edge ≡ slice_index_or kinds d Edge

-- and each class has one
abbrev pub ArePlain : List Kind → List Kind → Type 0
ArePlain after before = AreSame after × AreSame before × (length before ≡ length after)

-- what a context says of kinds and states is true of its program and classes
pub record IsContext (x : Context) : Type 0 where
  pub after : AreAfter (program_in x) (classes_in x) x.after.now
  pub before : AreBefore (program_in x) (classes_in x) x.before.now
  pub plain : x.is_plain ≡ true → ArePlain x.after.now x.before.now
  pub taken : AreTaken (program_in x) (classes_in x) x.taken.now

-- what was made so far for a context is right
pub record IsMaking (x : Context) (g : Graph) (b : Base) : Type 0 where
  pub context : IsContext x
  pub classes : g.classes ≡ length x.after.now
  pub made : IsMade (program_in x) (classes_in x) g
  pub noted : AreNoted (program_in x) g b

-- what the context says is true, and the graph stores a table of its program
pub record StoresTable (x : Context) (g : Graph) : Type 0 where
  pub context : IsContext x
  pub table : IsTable (program_in x) (classes_in x) (table_of g)

-- the number of the list for a kind of the byte before
abbrev pub number_in : Roots → kinds.Kind → ℕ
number_in r kinds.edge = r.edge
number_in r kinds.line_feed = r.line_feed
number_in r kinds.carriage_return = r.carriage_return
number_in r kinds.word_byte = r.word_byte
number_in r kinds.other = r.other

-- the list is the same for all kinds
abbrev pub HasOneRoot : Roots → Type 0
HasOneRoot r = (k : kinds.Kind) → number_in r k ≡ r.other

-- each is one that walks the start so
abbrev pub AreRoots : Program → Graph → Starts → Roots → Type 0
AreRoots p g starts r = (b : kinds.Kind) → IsRoot p g b starts (number_in r b)

-- a graph of the program, with its roots
pub record IsExplored (p : Program) (k : Classes) (e : Explored) : Type 0 where
  pub graph : IsGraph p k e.graph
  pub walked_everywhere : AreRoots p e.graph everywhere e.everywhere
  pub walked_here : AreRoots p e.graph (starts_of e.is_longest true true) e.here
