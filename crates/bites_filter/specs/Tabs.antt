-- The groups of a match, each after a tab.
use Rattle.std.specs.Prelude.{ℕ, ◌+◌, ◌-◌, ◌/◌, zero, suc, List, [], ◌∷◌, ◌++◌, length, Option, Some, None, option_map}
use Rattle.bites_spec.specs.Captured.{Excerpt, excerpt, text_of}
use Rattle.bites_spec.specs.Slots.{group_in}

-- a tab and the text of a group, if it participates
abbrev pub tabbed : Option Excerpt → List ℕ
tabbed None = []
tabbed (Some e) = 9 ∷ text_of e

-- n groups from group k on
unfoldable pub groups_from : List ℕ → List (Option ℕ) → ℕ → ℕ → List ℕ
groups_from text slots k zero = []
groups_from text slots k (suc n) = tabbed (option_map (excerpt text) (group_in slots k)) ++ groups_from text slots (k + 1) n

-- all groups but group 0
abbrev pub tabbed_groups : List ℕ → List (Option ℕ) → List ℕ
tabbed_groups text slots = groups_from text slots 1 (length slots / 2 - 1)
