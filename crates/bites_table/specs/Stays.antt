-- Thread lists that lead back to themselves, or from which nothing is found any more.
use Rattle.std.specs.Prelude.{◌≡◌, ℕ, ◌<◌, Bool, true, false, List, length, reverse, Some, None, slice_get, slice_index_or}
use Rattle.bites_spec.specs.Walks.{Among}
use Rattle.bites_spec.specs.Program.{Program}
use Rattle.bites_table.specs.Kinds.{Kind, Classes}
use Rattle.bites_table.specs.Transition.{ThreadList, Transition}
use Rattle.bites_table.specs.Table.{Table, list_at}
use Rattle.bites_table.specs.Graph.{Outcome, Cell, Graph, cell_at}
use Rattle.bites_table.specs.Built.{kind_as}
use Rattle.bites_table.specs.Made.{IsWalked}
use Rattle.bites_table.specs.Packed.{IsQuiet}
use Rattle.bites_table.specs.declared.kind.Kind as code
use Rattle.bites_table.specs.declared.kind.Kind.TheVariants.{Edge}
use Rattle.bites_table.specs.declared.walk.Walk.{Walk}
use Rattle.bites_table.specs.declared.table.skip.Skip.{Skip}
use Rattle.bites_table.specs.declared.table.skip.Rest.{Rest}
use Rattle.bites_table.specs.declared.table.skip.Stay.{Stay}

-- the list leads over the class back to itself, quietly for all slots
pub record LeadsBack (tab : Table) (n c : ℕ) : Type 0 where
  pub transition : Transition ℕ
  pub known : tab.transition n c ≡ Some transition
  pub next : transition.next ≡ n
  pub quiet : (width : ℕ) → IsQuiet transition.hit (list_at tab transition.next) transition.moves width

-- it does so with these visits and looks
pub record Stays (tab : Table) (n c : ℕ) (seen : List ℕ) (looks : ℕ) : Type 0 where
  pub back : LeadsBack tab n c
  pub seen_is : back.transition.seen ≡ seen
  pub looks_is : back.transition.looks ≡ looks

-- each byte of the set is of ASCII, and the list leads over it back to itself
pub record IsSkip (tab : Table) (k : Classes) (n : ℕ) (s : Skip) : Type 0 where
  pub ascii : (b : ℕ) → slice_index_or s.set b false ≡ true → b < 128
  pub stays : (b : ℕ) → slice_index_or s.set b false ≡ true → Stays tab n (k.class_of (Some b)) (reverse s.seen.value.items) s.looks.value

-- over the end nobody comes to a match, with these visits and looks
pub record EndsQuietly (tab : Table) (k : Classes) (n : ℕ) (seen : List ℕ) (looks : ℕ) : Type 0 where
  pub transition : Transition ℕ
  pub known : tab.transition n (k.class_of None) ≡ Some transition
  pub hit : transition.hit ≡ None
  pub seen_is : transition.seen ≡ seen
  pub looks_is : transition.looks ≡ looks

-- the list leads over the class quietly for all slots
pub record LeadsQuietly (tab : Table) (n c : ℕ) : Type 0 where
  pub transition : Transition ℕ
  pub known : tab.transition n c ≡ Some transition
  pub quiet : (width : ℕ) → IsQuiet transition.hit (list_at tab transition.next) transition.moves width

-- over each character it does so, and over the end nobody comes to a match, each time with these visits and looks
pub record IsCalm (tab : Table) (k : Classes) (n : ℕ) (seen : List ℕ) (looks : ℕ) : Type 0 where
  pub over : (ch : ℕ) → LeadsQuietly tab n (k.class_of (Some ch))
  pub seen_is : (ch : ℕ) → (over ch).transition.seen ≡ seen
  pub looks_is : (ch : ℕ) → (over ch).transition.looks ≡ looks
  pub ends : EndsQuietly tab k n seen looks

-- the list leads over the class to one of these lists
abbrev pub LeadsAmong : Table → List ℕ → ℕ → ℕ → Type 0
LeadsAmong tab lists n c = (t : Transition ℕ) → tab.transition n c ≡ Some t → Among lists t.next

-- the list is one of a set of lists that lead over each character into the set, and that are calm with the same visits and looks
pub record IsRest (tab : Table) (k : Classes) (n : ℕ) (r : Rest) : Type 0 where
  pub lists : List ℕ
  pub own : Among lists n
  pub calm : (m : ℕ) → Among lists m → IsCalm tab k m (reverse r.seen.value.items) r.looks.value
  pub closed : (m : ℕ) → Among lists m → (ch : ℕ) → LeadsAmong tab lists m (k.class_of (Some ch))

-- what a search passes at once from the list: a skip of this list of skips, or all that is left
pub record IsStay (tab : Table) (k : Classes) (skips : List Skip) (n : ℕ) (e : Stay) : Type 0 where
  pub within : (i : ℕ) → e.skip ≡ Some i → i < length skips
  pub skip : (i : ℕ) (s : Skip) → e.skip ≡ Some i → slice_get skips i ≡ Some s → IsSkip tab k n s
  pub rest : (r : Rest) → e.rest ≡ Some r → IsRest tab k n r

abbrev pub AreStays : Table → Classes → List Skip → List Stay → Type 0
AreStays tab k skips stays = (n : ℕ) (e : Stay) → slice_get stays n ≡ Some e → IsStay tab k skips n e

-- the outcome of a list over a class
pub record HasOutcome (g : Graph) (n c : ℕ) (o : Outcome) : Type 0 where
  pub cell : Cell
  pub known : cell_at g n c ≡ Some cell
  pub named : slice_get g.outcomes cell.outcome ≡ Some o

-- the walk of the list before a byte of the kind visits these states, with so many looks
pub record WalksSo (p : Program) (l : ThreadList) (after : Kind) (seen : List ℕ) (looks : ℕ) : Type 0 where
  pub walk : Walk
  pub walked : IsWalked p l after walk looks
  pub seen_is : walk.visited ≡ seen

-- before bytes of these kinds it does so
abbrev pub AllWalkSo : Program → ThreadList → List code.Kind → List ℕ → ℕ → Type 0
AllWalkSo p l kinds seen looks = (a : code.Kind) → Among kinds a → WalksSo p l (kind_as a) seen looks

-- over the classes that are kept the list stays, with these visits and looks
pub record StaysOver (tab : Table) (n : ℕ) (keeps : List Bool) (seen : List ℕ) (looks : ℕ) : Type 0 where
  pub stays : (c : ℕ) → slice_index_or keeps c false ≡ true → Stays tab n c seen looks

-- the list leads over the class back to itself, and it was walked before the kind of the class
pub record IsKept (tab : Table) (n : ℕ) (kinds after : List code.Kind) (c : ℕ) : Type 0 where
  pub leads_back : LeadsBack tab n c
  pub within : c < length after
  pub walked : Among kinds (slice_index_or after c Edge)
