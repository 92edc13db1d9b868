-- Laws of the groups that a pattern opens, and of those that its tree keeps.
use Rattle.std.specs.Prelude.{◌≡◌, ℕ, suc, ◌+◌, ◌*◌, ◌≤◌, List, length, Option, Some, None}
use Rattle.bites_spec.specs.Walks.{Among}
use Rattle.bites_spec.specs.Tree.{Tree, groups_in, captures_len}
use Rattle.bites_spec.specs.Pattern.{Text, Flags}
use Rattle.bites_spec.specs.Grammar.{Reading}
use Rattle.bites_spec.specs.Measure.{groups_left, groups_opened, HasItsGroups}
use Rattle.bites_spec.specs.Program.{Program}
use Rattle.bites_spec.specs.Run.{Run, IsRun, slots}
use Rattle.bites_spec.specs.Slots.{slot_in, group_in}
use Rattle.bites_spec.specs.Built.{Built, IsCompilable}
use Rattle.bites_spec.specs.Match.{Span}
use Rattle.bites_spec.specs.Regex.{Regex, IsCompiled, span_at, slots_at}
use Rattle.bites_spec.specs.Full.{full_slots}

-- a pattern opens its groups in one way, whatever tree it is read as
abbrev pub OpenedOnce : Type 0
OpenedOnce =
    (pattern : Text) (flags : Flags) (t u : Tree) (r : Reading pattern flags t) (s : Reading pattern flags u) →
    groups_opened r ≡ groups_opened s

-- there is an entry for group 0 and each group that the reading counts; the groups of the tree are among them, by number and
-- name, and there are no fewer entries than captures_len of the tree
abbrev pub OpenedAreKept : Type 0
OpenedAreKept =
    (pattern : Text) (flags : Flags) (t : Tree) (r : Reading pattern flags t) →
    (length (groups_opened r) ≡ suc r.behind.groups) × HasItsGroups (groups_opened r) t × (captures_len t ≤ length (groups_opened r))

-- there are captures_len entries for the groups left in a tree, and the groups of the tree are among them
abbrev pub LeftAreKept : Type 0
LeftAreKept = (t : Tree) → IsCompilable t → (length (groups_left t) ≡ captures_len t) × HasItsGroups (groups_left t) t

-- in the slots of a run of a tree's program, a group that is not in the tree has no place
abbrev pub DroppedHaveNoPlace : Type 0
DroppedHaveNoPlace =
    (t : Tree) (p : Program) (hay : List ℕ) → IsCompilable t → Built t p → (r : Run) → IsRun p hay r.start r.configurations r.end →
    (k : ℕ) → 1 ≤ k → (Among (groups_in t) k → ⊥) →
    (slot_in (slots p r) (2 * k) ≡ None) × (slot_in (slots p r) (2 * k + 1) ≡ None) × (group_in (slots p r) k ≡ None)

-- both hold the same groups by number, however many slots they have, or both are none
abbrev pub HaveSameGroups : Option (List (Option ℕ)) → Option (List (Option ℕ)) → Type 0
HaveSameGroups None None = Unit {0}
HaveSameGroups None (Some y) = ⊥
HaveSameGroups (Some x) None = ⊥
HaveSameGroups (Some x) (Some y) = (k : ℕ) → group_in x k ≡ group_in y k

-- the same span, and the same groups
abbrev pub AnswerAlike : Option Span → Option (List (Option ℕ)) → Option Span → Option (List (Option ℕ)) → Type 0
AnswerAlike g x h y = (g ≡ h) × HaveSameGroups x y

-- Two regexes of one pattern may differ in the groups that are kept, and so in numbers, names and size. They have one tree, and
-- their searches find the same, from any starts and over the whole haystack.
abbrev pub KeptAnswerAlike : Type 0
KeptAnswerAlike =
    (r k : Regex) → IsCompiled r → IsCompiled k → r.pattern ≡ k.pattern → r.flags ≡ k.flags → r.leftmost_longest ≡ k.leftmost_longest →
    (r.tree ≡ k.tree)
    × ((hay starts : List ℕ) →
    AnswerAlike (span_at r hay starts) (slots_at r hay starts) (span_at k hay starts) (slots_at k hay starts))
    × ((hay : List ℕ) → HaveSameGroups (full_slots r hay) (full_slots k hay))
