-- What stands in the slots of a match whose place and width are known.
use Rattle.std.specs.Prelude.{◌≡◌, ℕ, ◌+◌, ◌*◌, ◌<◌, List, length, Option, option_map, IfSome}
use Rattle.bites_spec.specs.Tree.{Tree}
use Rattle.bites_spec.specs.Match.{groups}
use Rattle.bites_spec.specs.Slots.{slot_in}
use Rattle.bites_literals.specs.Begins.{IsPrefilter}
use Rattle.bites_literals.specs.FixedWidth.{IsFixedWidth, marks_of}
use Rattle.bites_literals.specs.declared.fixed_width.FixedWidth.{FixedWidth}
use Rattle.bites_bytes.specs.declared.bytes.prefilter_with_slots.PrefilterWithSlots.{PrefilterWithSlots}

-- so many slots have the groups of the match
pub record HoldsGroups (f : FixedWidth) (n : ℕ) (slots : List (Option ℕ)) : Type 0 where
  pub count : length slots ≡ n
  pub begin : (k : ℕ) → 2 * k + 1 < n → slot_in slots (2 * k) ≡ option_map (λ s. s.start) (groups 0 f.len (marks_of f.groups.items) k)
  pub end : (k : ℕ) → 2 * k + 1 < n → slot_in slots (2 * k + 1) ≡ option_map (λ s. s.end) (groups 0 f.len (marks_of f.groups.items) k)

-- the slots of each match of the tree are these
abbrev pub AreFixed : Tree → (n : ℕ) → List (Option ℕ) → Type 0
AreFixed t n slots = (f : FixedWidth) × IsFixedWidth t f × HoldsGroups f n slots

-- what is known of the matches of the tree; each has n slots
pub record IsPrefilterWithSlots (t : Tree) (n : ℕ) (l : PrefilterWithSlots) : Type 0 where
  pub prefilter : IsPrefilter t l.prefilter
  pub slots : IfSome l.slots (λ s. AreFixed t n s.items)
